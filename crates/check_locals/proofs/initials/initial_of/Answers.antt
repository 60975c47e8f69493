use Rattle.std.proofs.Common.{refl}
use Rattle.syntax_trees.proofs.PlainForms.{of_constant, of_type_is}
use Rattle.check_locals.proofs.HeadClauses.{initial_constant, initial_type}
use Rattle.check_locals.proofs.initials.initial_of.Goals as goal

pub returns-in-TypeIs : goal.returns-in-TypeIs
returns-in-TypeIs g c = rw (c.in-TypeIs.is, of_type_is, initial_type) refl

pub returns-in-Constant : goal.returns-in-Constant
returns-in-Constant g c = rw (c.in-Constant.is, of_constant, initial_constant) refl
