-- The tag, a number, by which a record of the calls program says what it asks for.
-- Assumes nothing.
use Rattle.std.specs.Prelude.{◌≡◌, ℕ, Bool, false, ◌||◌, eqb, Result, MatchResult}
use Rattle.mi_calls.specs.declared.tags.EndpointCall.{EndpointCall}
use Rattle.mi_calls.specs.declared.tags.EndpointCall.TheVariants.{Setup, Receive, Take, Read, Complete, Poll, Timeout, Reset, Look, Declare}
use Rattle.mi_calls.specs.declared.tags.RequesterCall.{RequesterCall}
use Rattle.mi_calls.specs.declared.tags.RequesterCall.TheVariants.{Setup as RequesterSetup, Await, Cut, Primitive, Receive as RequesterReceive, Look as RequesterLook}
use Rattle.mi_calls.specs.declared.tags.Tag.{Tag}
use Rattle.mi_calls.specs.declared.tags.Tag.TheVariants.{EndpointStores, Endpoint, RequesterStore, Requester}
use Rattle.mi_calls.specs.declared.tags.UnknownTag.{UnknownTag}

-- the tag of a call of the endpoint
abbrev pub tag_of_endpoint : EndpointCall → ℕ
tag_of_endpoint Setup = 16
tag_of_endpoint Receive = 18
tag_of_endpoint Take = 19
tag_of_endpoint Read = 20
tag_of_endpoint Complete = 21
tag_of_endpoint Poll = 22
tag_of_endpoint Timeout = 23
tag_of_endpoint Reset = 24
tag_of_endpoint Look = 25
tag_of_endpoint Declare = 48

-- the tag of a call of the requester
abbrev pub tag_of_requester : RequesterCall → ℕ
tag_of_requester RequesterSetup = 32
tag_of_requester Await = 34
tag_of_requester Cut = 35
tag_of_requester Primitive = 36
tag_of_requester RequesterReceive = 37
tag_of_requester RequesterLook = 38

abbrev pub number_of : Tag → ℕ
number_of EndpointStores = 17
number_of (Endpoint c) = tag_of_endpoint c
number_of RequesterStore = 33
number_of (Requester c) = tag_of_requester c

-- some record has this number as its tag
unfoldable pub is_tag : ℕ → Bool
is_tag n =
    eqb n 16 || eqb n 17 || eqb n 18 || eqb n 19 || eqb n 20 || eqb n 21 || eqb n 22 || eqb n 23 || eqb n 24 || eqb n 25
    || eqb n 32 || eqb n 33 || eqb n 34 || eqb n 35 || eqb n 36 || eqb n 37 || eqb n 38 || eqb n 48

-- the result is what has this number as its tag; or no record has it, and the error has the number
abbrev pub Decodes : ℕ → Result Tag UnknownTag → Type 0
Decodes n r = MatchResult r (λ t. number_of t ≡ n) (λ e. (e.0 ≡ n) × (is_tag n ≡ false))
