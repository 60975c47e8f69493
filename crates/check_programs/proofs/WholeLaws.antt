-- A program whole, as the code takes its steps.
use Rattle.std.proofs.Common.{◌≡◌, List, [], map, Ok, Err, refl, sym, ap, ◌∙◌}
use Rattle.mesa_base.specs.declared.place.Place.{Place}
use Rattle.syntax_trees.specs.Syntax as s
use Rattle.check_rules.specs.Typed as t
use Rattle.check_rules.specs.Around.{Around, with_labels}
use Rattle.check_rules.specs.Checking.{phrase, statements, exits}
use Rattle.check_rules.specs.Parts.{join_stmts}
use Rattle.check_rules.specs.Phrases.{is_catch}
use Rattle.check_rules.specs.Programs.{Declared, Values, Whole, all_declared, body_block, frame, heads_are_done, marked_if, outermost, values_of, whole_in}
use Rattle.check_rules.specs.Statements.{labels_of_exits}
use Rattle.check_rules.specs.Steps.{State, Checked, and_then}
use Rattle.check_programs.specs.Found.{Found, all_found, found_in}
use Rattle.check_programs.specs.Frames.{few_locals}
use Rattle.check_programs.specs.Shown.{Parts, Shown, after_heads, parts, shown, shown_of}
use Rattle.check_programs.specs.Turns.{values_by}
use Rattle.check_programs.proofs.ValueLaws.{values_by_heads}

module _ (a : Around) (p : Place) (inner : s.Inner) where
  abbrev inside : Around
  inside = with_labels (labels_of_exits inner.exits) a

  abbrev whole_of : List Declared → t.Phrase → Values → t.Stmts → t.Exits → t.Kinds → Whole
  whole_of ds w vs ss es variables = record {
    declared = ds;
    procedures = vs.procedures;
    body = record { variables = variables; does = marked_if (is_catch inner.enable) (body_block w vs.statements ss es) };
  }

  abbrev parts_with : t.Phrase → Values → t.Stmts → t.Exits → Parts
  parts_with w vs ss es = record { procedures = vs.procedures; does = body_block w vs.statements ss es }

  abbrev ending : List Declared → Checked (Parts × State) → Checked Shown
  ending ds q = and_then q (λ x. and_then (few_locals [] [] p x.1) (λ _. Ok (shown_of inner (found_in ds) x.0 x.1)))

  module _ (ds : List Declared) where
    by_frame : (w : t.Phrase) (vs : Values) (ss : t.Stmts) (es : t.Exits) (σ : State) (r : Checked (Unit {0}))
        → shown (and_then (and_then {B = t.Kinds × State} r (λ _. Ok (σ.variables, σ))) (λ z. Ok (whole_of ds w vs ss es z.0, z.1)))
        ≡ and_then r (λ _. Ok (shown_of inner (found_in ds) (parts_with w vs ss es) σ))
    by_frame w vs ss es σ (Ok u) = refl
    by_frame w vs ss es σ (Err e) = refl

    abbrev with_exits : t.Phrase → Values → t.Stmts → Checked (t.Exits × State) → Checked (Parts × State)
    with_exits w vs js r = and_then (and_then {B = (t.Stmts × t.Exits) × State} r (λ y. Ok ((js, y.0), y.1)))
        (λ z. Ok (record { procedures = vs.procedures; does = t.Block w z.0.0 z.0.1 }, z.1))

    by_exits : (w : t.Phrase) (vs : Values) (ss : t.Stmts) (r : Checked (t.Exits × State))
        → shown (and_then r (λ y. and_then (frame [] [] p y.1) (λ z. Ok (whole_of ds w vs ss y.0 z.0, z.1))))
        ≡ ending ds (with_exits w vs (join_stmts vs.statements ss) r)
    by_exits w vs ss (Ok y) = by_frame w vs ss y.0 y.1 (few_locals [] [] p y.1)
    by_exits w vs ss (Err e) = refl

    abbrev exits_at : State → Checked (t.Exits × State)
    exits_at = exits a a.labelled [] inner.exits

    abbrev joined_parts : t.Phrase → Values → Checked (t.Stmts × State) → Checked (Parts × State)
    joined_parts w vs r = and_then
        (and_then {B = (t.Stmts × t.Exits) × State} (and_then {B = t.Stmts × State} r (λ x. Ok (join_stmts vs.statements x.0, x.1)))
        (λ x. and_then {B = (t.Stmts × t.Exits) × State} (exits_at x.1) (λ y. Ok ((x.0, y.0), y.1))))
        (λ z. Ok (record { procedures = vs.procedures; does = t.Block w z.0.0 z.0.1 }, z.1))

    by_statements : (w : t.Phrase) (vs : Values) (r : Checked (t.Stmts × State))
        → shown (and_then r (λ x. and_then (exits_at x.1) (λ y. and_then (frame [] [] p y.1) (λ z. Ok (whole_of ds w vs x.0 y.0 z.0, z.1)))))
        ≡ ending ds (joined_parts w vs r)
    by_statements w vs (Ok x) = by_exits w vs x.0 (exits_at x.1)
    by_statements w vs (Err e) = refl

    abbrev statements_at : State → Checked (t.Stmts × State)
    statements_at = statements inside inner.statements

    by_values : (w : t.Phrase) (r : Checked (Values × State))
        → shown (and_then r (λ v. and_then (statements_at v.1) (λ x. and_then (exits_at x.1) (λ y.
        and_then (frame [] [] p y.1) (λ z. Ok (whole_of ds w v.0 x.0 y.0 z.0, z.1))))))
        ≡ ending ds (and_then r (λ v. joined_parts w v.0 (statements_at v.1)))
    by_values w (Ok v) = by_statements w v.0 (statements_at v.1)
    by_values w (Err e) = refl

    abbrev behind_values : t.Phrase → Checked (Values × State) → Checked (Parts × State)
    behind_values w r = and_then r (λ v. joined_parts w v.0 (statements_at v.1))

    by_phrase : (r : Checked (t.Phrase × State))
        → shown (and_then r (λ w. and_then (values_of inside inner.declarations ds w.1) (λ v. and_then (statements_at v.1) (λ x. and_then (exits_at x.1) (λ y.
        and_then (frame [] [] p y.1) (λ z. Ok (whole_of ds w.0 v.0 x.0 y.0 z.0, z.1)))))))
        ≡ ending ds (and_then r (λ w. behind_values w.0 (values_by inside inner.declarations (map (λ (d : Declared). d.head) ds) w.1)))
    by_phrase (Ok w) =
        by_values w.0 (values_of inside inner.declarations ds w.1)
        ∙ ap (λ r. ending ds (behind_values w.0 r)) (sym (values_by_heads inside inner.declarations ds w.1))
    by_phrase (Err e) = refl

    behind_heads : (σ : State)
        → shown (and_then (heads_are_done σ) (λ u. and_then (phrase inside inner.enable u.1) (λ w. and_then (values_of inside inner.declarations ds w.1) (λ v.
        and_then (statements_at v.1) (λ x. and_then (exits_at x.1) (λ y. and_then (frame [] [] p y.1) (λ z. Ok (whole_of ds w.0 v.0 x.0 y.0 z.0, z.1))))))))
        ≡ after_heads a inside p inner (found_in ds) σ
    behind_heads σ = ap (λ r. r) (by_heads (heads_are_done σ))
      where
        by_heads : (r : Checked (Unit {0} × State))
            → shown (and_then r (λ u. and_then (phrase inside inner.enable u.1) (λ w. and_then (values_of inside inner.declarations ds w.1) (λ v.
            and_then (statements_at v.1) (λ x. and_then (exits_at x.1) (λ y. and_then (frame [] [] p y.1) (λ z. Ok (whole_of ds w.0 v.0 x.0 y.0 z.0, z.1))))))))
            ≡ and_then r (λ u. ending ds (parts a inside inner (map (λ (d : Declared). d.head) ds) u.1))
        by_heads (Ok u) = by_phrase (phrase inside inner.enable u.1)
        by_heads (Err e) = refl

  pub whole_is : (σ : State) → shown (whole_in a p inner σ)
      ≡ and_then (all_found (outermost inside) inner.declarations σ) (λ r. after_heads a inside p inner r.0 r.1)
  unfolding whole_in
  whole_is σ = by_declared (all_declared (outermost inside) 1 0 inner.declarations σ)
    where
      by_declared : (r : Checked (List Declared × State))
          → shown (and_then r (λ d. and_then (heads_are_done d.1) (λ u. and_then (phrase inside inner.enable u.1) (λ w.
          and_then (values_of inside inner.declarations d.0 w.1) (λ v. and_then (statements_at d.0 v.1) (λ x. and_then (exits_at d.0 x.1) (λ y.
          and_then (frame [] [] p y.1) (λ z. Ok (whole_of d.0 w.0 v.0 x.0 y.0 z.0, z.1)))))))))
          ≡ and_then (and_then {B = Found × State} r (λ d. Ok (found_in d.0, d.1))) (λ q. after_heads a inside p inner q.0 q.1)
      by_declared (Ok d) = behind_heads d.0 d.1
      by_declared (Err e) = refl
