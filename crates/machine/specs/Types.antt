-- The declared types and their variants, passed on together to this crate, with the refusals that its calls answer.
-- Assumes nothing.
pub use Rattle.refusals.specs.declared.Refusal.{Refusal}
pub use Rattle.machine.specs.declared.Ticket.{Ticket}
pub use Rattle.machine.specs.declared.Assembly.{Assembly}
pub use Rattle.machine.specs.declared.Taking.{Taking}
pub use Rattle.machine.specs.declared.Taking.TheVariants.{Untaken, Taken}
pub use Rattle.machine.specs.declared.Request.{Request}
pub use Rattle.machine.specs.declared.Response.{Response}
pub use Rattle.machine.specs.declared.Outgoing.{Outgoing}
pub use Rattle.machine.specs.declared.Phase.{Phase}
pub use Rattle.machine.specs.declared.Phase.TheVariants.{Idle, Receive, Process, Answered, Transmit}
pub use Rattle.machine.specs.declared.Slot.{Slot}
pub use Rattle.machine.specs.declared.Reply.{Reply}
pub use Rattle.machine.specs.declared.Endpoint.{Endpoint}
pub use Rattle.machine.specs.declared.Received.{Received}
pub use Rattle.machine.specs.declared.Received.TheVariants.{MoreToCome, CommandComplete, ControlDone}
