-- What checking each form of a statement is, clause by clause.
use Rattle.std.proofs.Common.{◌≡◌, Bool, true, false, [], Ok, refl, ap, ◌∙◌}
use Rattle.std.specs.Prelude.{◌||◌}
use Rattle.mesa_base.specs.declared.place.Place.{Place}
use Rattle.syntax_trees.specs.Syntax as s
use Rattle.check_rules.specs.Typed as t
use Rattle.check_rules.specs.Around.{Around, in_round, inside, with_labels}
use Rattle.check_rules.specs.Checking as spec
use Rattle.check_rules.specs.Parts.{first, join_stmts}
use Rattle.check_rules.specs.Phrases.{holds, in_cases, is_catch}
use Rattle.interface_records.specs.PlainTypes as v
use Rattle.check_rules.specs.Ranges.{Into}
use Rattle.check_rules.specs.Statements.{Held, held, labels_of_exits, labels_of_repeats, looped, numbered, whole}
use Rattle.check_rules.specs.Scopes.{nothing}
use Rattle.check_rules.specs.Steps.{Check, State, and_then, ◌>>=◌, pure, in_scope}
use Rattle.check_simple_statements.specs.Whole.{from_start}
use Rattle.check_statement_lists.specs.Turns.{statements_behind}
use Rattle.check_statements.specs.Rules.{block_inside, block_numbered, block_scope, enable_of, if_inside, loop_inside, marked_if, round, round_in, select_inside, within}
use Rattle.check_statement_lists.proofs.Chaining.{then_two, then_three}
use Rattle.check_simple_statements.proofs.WholeLaws.{whole_is}
use Rattle.check_statements.proofs.WholeLaws.{numbered_is}

pub nested_is : (a : Around) (b : s.Block) → spec.statement a (s.Nested b) ≡ spec.block a b
unfolding spec.check
nested_is a b = refl

pub otherwise_none : (a : Around) → spec.otherwise a s.NoStatement ≡ pure t.Null
unfolding spec.check
otherwise_none a = refl

pub otherwise_some : (a : Around) (body : s.Statement) → spec.otherwise a (s.OneStatement body) ≡ spec.statement a body
unfolding spec.check
otherwise_some a body = refl

if_parts : (a : Around) (e : s.Expr) (body : s.Statement) (other : s.MaybeStatement) → (do
  x ← spec.check a (Into v.Boolean (first e)) e
  b ← spec.statement a body
  o ← spec.otherwise a other
  pure (t.If x.value b o)) ≡ if_inside a e body other
unfolding if_inside
if_parts a e body other = λ i σ. then_two {B = t.Expr × State} (spec.check a (Into v.Boolean (first e)) e σ) (λ x. Ok (x.0.value, x.1))
    (λ x. and_then (spec.statement a body x.1) (λ b. and_then (spec.otherwise a other b.1) (λ o. Ok (t.If x.0 b.0 o.0, o.1)))) i

pub if_is : (a : Around) (p : Place) (e : s.Expr) (body : s.Statement) (other : s.MaybeStatement)
    → spec.statement a (s.If p e body other) ≡ from_start a (holds e) 0 p (λ a. if_inside a e body other)
unfolding spec.check
if_is a p e body other = ap (λ rule. whole a p (holds e) rule) (λ i a. if_parts a e body other i) ∙ whole_is a p (holds e) (λ a. if_inside a e body other)

pub select_is : (a : Around) (p : Place) (e : s.Expr) (cs : s.Cases) (other : s.MaybeStatement)
    → spec.statement a (s.Select p e cs other) ≡ from_start a (holds e || in_cases cs) 0 p (λ a. select_inside a e cs other)
unfolding spec.check select_inside
select_is a p e cs other = whole_is a p (holds e || in_cases cs) (λ a. select_inside a e cs other)

loop_parts : (a : Around) (c : s.Control) (ph : s.Phrase) (ss : s.Statements) (rs : s.Repeats) → (do
  x ← spec.control a c
  w ← spec.phrase (in_round (labels_of_repeats rs) a) ph
  bs ← spec.statements (in_round (labels_of_repeats rs) a) ss
  l ← spec.repeats a a.labelled [] false rs
  pure (looped x.count (t.LoopOf x.condition (t.Marked a.marked (t.Block w bs t.NoExits)) l.exits l.finished))) ≡ loop_inside a c ph ss rs
unfolding loop_inside round round_in
loop_parts a c ph ss rs = λ i σ. and_then (spec.control a c σ) (λ x.
    then_three {C = t.Stmt × State} (spec.phrase (in_round (labels_of_repeats rs) a) ph x.1) (λ w. spec.statements (in_round (labels_of_repeats rs) a) ss w.1)
    (λ w bs. Ok (t.Marked a.marked (t.Block w.0 bs.0 t.NoExits), bs.1))
    (λ body. and_then (spec.repeats a a.labelled [] false rs body.1) (λ l. Ok (looped x.0.count (t.LoopOf x.0.condition body.0 l.0.exits l.0.finished), l.1))) i)

pub loop_is : (a : Around) (c : s.Control) (p : Place) (ph : s.Phrase) (ss : s.Statements) (rs : s.Repeats)
    → spec.statement a (s.Loop c p ph ss rs) ≡ from_start a true 0 (s.control_place c p) (λ a. loop_inside a c ph ss rs)
unfolding spec.check
loop_is a c p ph ss rs =
    ap (λ rule. whole a (s.control_place c p) true rule) (λ i a. loop_parts a c ph ss rs i) ∙ whole_is a (s.control_place c p) true (λ a. loop_inside a c ph ss rs)

-- ---- blocks

inside_parts : (a : Around) (p : Place) (ph : s.Phrase) (locals : s.Locals) (ss : s.Statements) (es : s.Exits) → (do
  hs ← spec.heads a locals
  w ← spec.phrase a ph
  ds ← spec.initials a locals hs
  bs ← spec.statements a ss
  pure (held w ds bs)) ≡ block_inside a (s.BlockOf p ph locals ss es)
unfolding block_inside statements_behind
inside_parts a p ph locals ss es = λ i σ. and_then (spec.heads a locals σ) (λ hs. and_then (spec.phrase a ph hs.1) (λ w. and_then (spec.initials a locals hs.0 w.1) (λ ds.
    then_two {B = t.Stmts × State} (spec.statements a ss ds.1) (λ bs. Ok (join_stmts ds.0 bs.0, bs.1)) (λ bs. Ok (record { phrase = w.0; statements = bs.0 }, bs.1)) i)))

abbrev with_exits : Around → s.Exits → Check Held → Check t.Stmt
with_exits a es inner = do
  x ← in_scope nothing inner
  es ← spec.exits a a.labelled [] es
  pure (t.Block x.phrase x.statements es)

block_of : (a : Around) (p : Place) (ph : s.Phrase) (locals : s.Locals) (ss : s.Statements) (es : s.Exits)
    → spec.block a (s.BlockOf p ph locals ss es) ≡ (λ σ. and_then (block_numbered (within (is_catch ph) a) (s.BlockOf p ph locals ss es) σ) (λ r. Ok (marked_if (is_catch ph) a r.0, r.1)))
unfolding spec.check block_numbered block_scope
block_of a p ph locals ss es =
    ap (λ rule. numbered a (is_catch ph) rule) (λ i a. with_exits a es (inside_parts (with_labels (labels_of_exits es) (inside a)) p ph locals ss es i))
    ∙ numbered_is a (is_catch ph) (λ a. block_numbered a (s.BlockOf p ph locals ss es))

pub block_is : (a : Around) (b : s.Block)
    → spec.block a b ≡ (λ σ. and_then (block_numbered (within (is_catch (enable_of b)) a) b σ) (λ r. Ok (marked_if (is_catch (enable_of b)) a r.0, r.1)))
block_is a (s.BlockOf p ph locals ss es) = block_of a p ph locals ss es
