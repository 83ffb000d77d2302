-- The declared types and their variants, passed on together. The variants of `Gathered`, which share names with those of other types, are not here.
-- Assumes nothing.
pub use Rattle.controller.specs.declared.Key.{Key}
pub use Rattle.controller.specs.declared.Awaiting.{Awaiting}
pub use Rattle.controller.specs.declared.Awaiting.TheVariants.{Nothing, Awaited, Gathering}
pub use Rattle.controller.specs.declared.Requester.{Requester}
pub use Rattle.controller.specs.declared.Primitive.{Primitive}
pub use Rattle.controller.specs.declared.Gathered.{Gathered}
