-- Every answer number of document 01 that is not about bytes alone; `mctp` names 10 to 14 (Header), 16 and 21 to 23 (Gather), and `opening` 15 and 17
-- to 19.
-- Assumes nothing.
use Rattle.std.specs.Prelude.{ℕ, Result, Ok, Err}
use Rattle.refusals.specs.Refusals.{number}
use Rattle.machine.specs.Types.{Refusal, Received, MoreToCome, CommandComplete, ControlDone}

-- ---- receiving

abbrev pub more_to_come : ℕ
more_to_come = 0

abbrev pub command_complete : ℕ
command_complete = 1

-- also with an error reply
abbrev pub control_done : ℕ
control_done = 2

abbrev pub slot_not_idle : ℕ
slot_not_idle = 20

-- what a packet that is not refused did, in document 01's number
abbrev pub received_number : Received → ℕ
received_number MoreToCome = 0
received_number CommandComplete = 1
received_number ControlDone = 2

-- what receiving answers, in document 01's number
abbrev pub receive_says : Result Received Refusal → ℕ
receive_says (Ok received) = received_number received
receive_says (Err refusal) = number refusal

-- ---- taking, completing, declaring, timeout, reset, setup

abbrev pub done : ℕ
done = 0

abbrev pub no_such_slot : ℕ
no_such_slot = 30

-- not in Process, or its response is there
abbrev pub no_command : ℕ
no_command = 31

abbrev pub other_ticket : ℕ
other_ticket = 32

abbrev pub taken_already : ℕ
taken_already = 33

abbrev pub not_taken : ℕ
not_taken = 34

abbrev pub wrong_body_size : ℕ
wrong_body_size = 35

abbrev pub not_gathering : ℕ
not_gathering = 37

-- ---- polling

abbrev pub nothing_to_send : ℕ
nothing_to_send = 0

abbrev pub packet_sent_number : ℕ
packet_sent_number = 1

abbrev pub short_buffer : ℕ
short_buffer = 36

-- ---- every call that is lent the stores

abbrev pub wrong_stores_number : ℕ
wrong_stores_number = 40
