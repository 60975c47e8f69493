-- Operands of heads: a bound that is a long AND, of which each operand has one word.
use Rattle.std.specs.Prelude.{◌≡◌, ℕ, zero, suc, true, false, List, [], ◌∷◌, Option, Some, None, codes}
use Rattle.std.proofs.Common.{refl}
use Rattle.mesa_base.specs.declared.place.Place.{Place}
use Rattle.mesa_base.specs.declared.identifier.Identifier.{Identifier}
use Rattle.syntax_trees.specs.declared.syntax.Operator.TheVariants as op
use Rattle.syntax_trees.specs.declared.syntax.TypeBase.TheVariants as base
use Rattle.syntax_trees.specs.Syntax as s
use Rattle.check_rules.specs.CheckedModule.{program_by}
use Rattle.check_rules.specs.declared.fault.Cause.TheVariants.{UnknownName, TypeMismatch, FrameTooLarge}
use Rattle.check_rules.proofs.Texts.{Answer, Fine, Refused, answer_of}
use Rattle.check_rules.proofs.Everything.{everything}

abbrev at : ℕ → Place
at n = record { token = n; line = 1; column = n }

abbrev called : List ℕ → ℕ → Identifier
called x n = record { name = x; place = at n }

unfoldable steps : ℕ → s.Operations
steps zero = s.NoOperation
steps (suc n) = s.AndOperation op.And (at 9) (s.Truth (at 9) true) (steps n)

-- a subrange of BOOLEAN with so many words of operands, two at least
abbrev range : ℕ → s.TypeExp
range n = s.Subrange base.Unsaid (s.Between (at 8) false (s.Truth (at 8) false) (s.Run (s.Truth (at 8) true) (steps n)) false)

abbrev in_module : List s.Declaration → s.Statements → Answer
in_module ds ss = answer_of (program_by m [] m.kind)
  where
    m : s.Module
    m = record {
      directory = [];
      name = called (codes "M") 1;
      kind = s.Program (at 2) [] [] [] (record { enable = s.NoPhrase; declarations = ds; statements = ss; exits = s.NoExits });
    }

abbrev assigns : List ℕ → ℕ → s.Statements
assigns x n = s.AndStatement (s.Assign (s.LeftOf (called x n) s.NoSuffix) (s.NumberLiteral (at n) 1)) s.NoStatements

abbrev procedure : ℕ → s.Statements → s.Declaration
procedure n ss = record {
  names = called (codes "P") 3 ∷ [];
  access = None;
  declared = s.Procedure (record { takes = Some (s.WithNames (s.AndFields (called (codes "b") 4 ∷ []) (range n) s.NoFields)); gives = None })
      (s.BlockOf (at 5) s.NoPhrase s.NoLocals ss s.NoExits);
}

fits : in_module (procedure 16382 s.NoStatements ∷ []) s.NoStatements ≡ Fine
unfolding everything steps
fits = refl

above : in_module (procedure 16383 s.NoStatements ∷ []) s.NoStatements ≡ Refused FrameTooLarge 3
unfolding everything steps
above = refl

after_its_body : in_module (procedure 16383 (assigns (codes "q") 7) ∷ []) s.NoStatements ≡ Refused UnknownName 7
unfolding everything steps
after_its_body = refl

-- those of other declarations where they stand
abbrev declaration : s.Declared → s.Declaration
declaration d = record { names = called (codes "x") 3 ∷ called (codes "y") 4 ∷ []; access = None; declared = d }

abbrev takes : ℕ → Option s.FieldList
takes n = Some (s.Unnamed (s.AndType (range n) s.NoTypes))

a_type : in_module (declaration (s.Data (s.TypeIs (range 16383))) ∷ []) (assigns (codes "q") 7) ≡ Refused FrameTooLarge 3
unfolding everything steps
a_type = refl

a_variable : in_module (declaration (s.Data (s.Variable (range 16383))) ∷ []) (assigns (codes "q") 7) ≡ Refused FrameTooLarge 3
unfolding everything steps
a_variable = refl

an_error : in_module (declaration (s.Error (takes 16383)) ∷ []) (assigns (codes "q") 7) ≡ Refused FrameTooLarge 3
unfolding everything steps
an_error = refl

a_local_variable : in_module [] (s.AndStatement (s.Nested (s.BlockOf (at 5) s.NoPhrase
    (s.AndLocal (called (codes "z") 6 ∷ []) (s.Variable (range 16383)) s.NoLocals) (assigns (codes "q") 7) s.NoExits)) s.NoStatements) ≡ Refused FrameTooLarge 6
unfolding everything steps
a_local_variable = refl

-- with an initial value both count, and later: the fault of a head comes before
abbrev initial : ℕ → s.Expr → s.Declaration
initial n e = declaration (s.Data (s.Initial (range n) e))

with_a_value : in_module (initial 16382 (s.Truth (at 7) true) ∷ []) s.NoStatements ≡ Refused FrameTooLarge 3
unfolding everything steps
with_a_value = refl

within : in_module (initial 16381 (s.Truth (at 7) true) ∷ []) (assigns (codes "q") 7) ≡ Refused UnknownName 7
unfolding everything steps
within = refl

after_its_value : in_module (initial 16383 (s.NumberLiteral (at 7) 1) ∷ []) s.NoStatements ≡ Refused TypeMismatch 7
unfolding everything steps
after_its_value = refl
