-- How many bytes a record of the calls program has behind its tag and length.
-- Assumes nothing.
use Rattle.std.specs.Prelude.{ℕ}
use Rattle.mi_calls.specs.declared.tags.EndpointCall.{EndpointCall}
use Rattle.mi_calls.specs.declared.tags.EndpointCall.TheVariants.{Setup, Receive, Take, Read, Complete, Poll, Timeout, Reset, Look, Declare}
use Rattle.mi_calls.specs.declared.tags.RequesterCall.{RequesterCall}
use Rattle.mi_calls.specs.declared.tags.RequesterCall.TheVariants.{Setup as RequesterSetup, Await, Cut, Primitive, Receive as RequesterReceive, Look as RequesterLook}
use Rattle.mi_calls.specs.declared.tags.Tag.{Tag}
use Rattle.mi_calls.specs.declared.tags.Tag.TheVariants.{EndpointStores, Endpoint, RequesterStore, Requester}

-- the fewest that a call of the endpoint has
abbrev pub least_of_endpoint : EndpointCall → ℕ
least_of_endpoint Setup = 1
least_of_endpoint Receive = 0
least_of_endpoint Take = 4
least_of_endpoint Read = 4
least_of_endpoint Complete = 8
least_of_endpoint Poll = 2
least_of_endpoint Timeout = 4
least_of_endpoint Reset = 0
least_of_endpoint Look = 0
least_of_endpoint Declare = 9

-- the fewest that a call of the requester has
abbrev pub least_of_requester : RequesterCall → ℕ
least_of_requester RequesterSetup = 1
least_of_requester Await = 2
least_of_requester Cut = 4
least_of_requester Primitive = 12
least_of_requester RequesterReceive = 0
least_of_requester RequesterLook = 0

-- the fewest that a record with this tag has
abbrev pub least_size : Tag → ℕ
least_size EndpointStores = 4
least_size (Endpoint c) = least_of_endpoint c
least_size RequesterStore = 2
least_size (Requester c) = least_of_requester c
