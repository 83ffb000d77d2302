-- Document 01's number of each refusal, and what a call answers with its refusal told by that number.
-- Assumes nothing.
use Rattle.std.specs.Prelude.{ℕ, Result, Ok, Err}
use Rattle.refusals.specs.declared.Refusal.{Refusal}
use Rattle.refusals.specs.declared.Refusal.TheVariants.{TooShort, TooLong, WrongVersion, NotOurs, WrongDirection, WrongMessage, NotFull, MessageTooShort, NotTwelve, CheckWrong, NotExpected, NoAssembly, OutOfSequence, MessageTooLong, NoSuchSlot, NoCommand, OtherTicket, TakenAlready, NotTaken, WrongBodySize, ShortBuffer, NotGathering, WrongEid, WrongUnit, WrongStores, OutOfRange}

abbrev pub number : Refusal → ℕ
number TooShort = 10
number TooLong = 11
number WrongVersion = 12
number NotOurs = 13
number WrongDirection = 14
number WrongMessage = 15
number NotFull = 16
number MessageTooShort = 17
number NotTwelve = 18
number CheckWrong = 19
number NotExpected = 20
number NoAssembly = 21
number OutOfSequence = 22
number MessageTooLong = 23
number NoSuchSlot = 30
number NoCommand = 31
number OtherTicket = 32
number TakenAlready = 33
number NotTaken = 34
number WrongBodySize = 35
number ShortBuffer = 36
number NotGathering = 37
number WrongEid = 38
number WrongUnit = 39
number WrongStores = 40
number OutOfRange = 41

-- the refusal told by its number, what an answer gives as it is
abbrev pub numbered : {A : Type 0} → Result A Refusal → Result A ℕ
numbered (Ok a) = Ok a
numbered (Err refusal) = Err (number refusal)

-- 0 for an answer that gives nothing
abbrev pub answer_number : Result (Unit {0}) Refusal → ℕ
answer_number (Ok given) = 0
answer_number (Err refusal) = number refusal
