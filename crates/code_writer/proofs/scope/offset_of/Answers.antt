use Rattle.std.proofs.Common.{arith, ◌≡◌, ◌-◌, ◌∙◌, sym, ap, refl, Some, None}
use Rattle.std.proofs.lemmas.Option.{slice_get_past, slice_get_read}
use Rattle.std.specs.Prelude.{slice_get}
use Rattle.code_trees.specs.Plain.{point_of}
use Rattle.code_blocks.specs.Writing.{Env}
use Rattle.code_blocks.specs.Writing.{offset_of as offset_at}
use Rattle.code_writer.specs.Scopes.{env_at}
use Rattle.code_writer.proofs.Arena.{env_past, env_in, env_zero, no_offset}
use Rattle.code_writer.proofs.scope.offset_of.Goals as goal

pub returns-in_default : goal.returns-in_default
returns-in_default c =
    let none : slice_get c.args.scopes.now (c.outward.at - 1) ≡ None = slice_get_past _ _ c.in_default.ensures.lookup.3 in
    no_offset _ (point_of c.args.point) (env_past c.args.scopes.now c.outward.at (omega arith) none) ∙ c.outward.invariant

pub returns-in-Some-offset_in : goal.returns-in-Some-offset_in
returns-in-Some-offset_in c =
    let some : slice_get c.args.scopes.now (c.outward.at - 1) ≡ Some c.in-Some.scope.now = slice_get_read _ _ _ _ refl c.in-Some.ensures.lookup.3.0 c.in-Some.ensures.lookup.1 in
    sym (c.in-Some-offset_in.ensures (env_at c.args.scopes.now (c.outward.at - 1 - c.in-Some.scope.now.back)))
    ∙ ap (λ (E : Env). offset_at (E.points (point_of c.args.point)))
    (sym (env_in c.args.scopes.now c.outward.at c.in-Some.scope.now _ (omega arith) some refl))
    ∙ c.outward.invariant

pub outward-preserved : goal.outward-preserved
outward-preserved c =
    let some : slice_get c.args.scopes.now (c.outward.at - 1) ≡ Some c.in-Some.scope.now = slice_get_read _ _ _ _ refl c.in-Some.ensures.lookup.3.0 c.in-Some.ensures.lookup.1 in
    sym (c.in_default-offset_in.ensures (env_at c.args.scopes.now c.outer-at.result))
    ∙ ap (λ (E : Env). offset_at (E.points (point_of c.args.point)))
    (sym (env_in c.args.scopes.now c.outward.at c.in-Some.scope.now _ (omega arith) some c.outer-at.ensures))
    ∙ c.outward.invariant

pub returns : goal.returns
returns c = no_offset _ (point_of c.args.point) (env_zero c.args.scopes.now c.outward.at (omega arith)) ∙ c.outward.invariant
