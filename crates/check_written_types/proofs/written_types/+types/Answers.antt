use Rattle.std.proofs.Common.{[], map, take, rules, sym, ap, ◌∙◌}
use Rattle.std.specs.Prelude.{is_some}
use Rattle.syntax_trees.specs.PlainSyntax as plain
use Rattle.interface_records.specs.PlainTypes.{plain as plain_type, plain_field}
use Rattle.check_scopes.specs.Scopes.{has}
use Rattle.check_state.specs.Views as words
use Rattle.check_written_types.proofs.FieldLoops.{named_at, named_end, named_first, named_rest, names_before, unnamed_at, unnamed_end, unnamed_first}
use Rattle.check_written_types.proofs.FieldTurns.{named_turn, names_turn, one_twice, they_differ, unnamed_turn}
use Rattle.check_written_types.proofs.written_types.+types.Goals as goal

pub unnamed_fields-loop-one-preserved : goal.unnamed_fields-loop-one-preserved
unnamed_fields-loop-one-preserved g t c =
    c.loop-one.invariant
    ∙ unnamed_turn (words.around c.args.around.now) c.args.all.now c.loop-one.one-index c.one-item.result (words.state c.loop-one.state) _ c.loop-one.done _ c.unnamed_field.result (plain_type c.in_ok-held.kind)
    (search rules) (search rules) (search rules) (search rules) (search rules)

pub unnamed_fields-returns-in_err-held : goal.unnamed_fields-returns-in_err-held
unnamed_fields-returns-in_err-held g t c = rw (unnamed_first (words.around c.args.around.now) (plain.types c.args.all.now) (words.state c.args.state.now)) (rw c.loop-one.invariant (rw (unnamed_at (words.around c.args.around.now) (map plain_field c.loop-one.done) c.args.all.now c.loop-one.one-index c.one-item.result (words.state c.loop-one.state) (search rules) (search rules)) (search rules)))

pub unnamed_fields-returns : goal.unnamed_fields-returns
unnamed_fields-returns g t c = rw (unnamed_first (words.around c.args.around.now) (plain.types c.args.all.now) (words.state c.args.state.now)) (rw c.loop-one.invariant (rw (unnamed_end (words.around c.args.around.now) (map plain_field c.loop-one.done) c.args.all.now c.loop-one.one-index (words.state c.loop-one.state) (search rules)) (search rules)))

pub named_fields-loop-one-init : goal.named_fields-loop-one-init
unfolding names_before has
named_fields-loop-one-init g t c = record {
  names = λ x. ap (λ s. is_some (s x)) c.new-taken.ensures;
  value = ap (λ done. named_rest (words.around c.args.around.now) (map plain_field done) [] (plain.named_fields c.args.all.now) (words.state c.args.state.now)) (sym c.new-done.ensures);
}

pub named_fields-loop-one-preserved : goal.named_fields-loop-one-preserved
named_fields-loop-one-preserved g t c =
    let i = c.loop-one.one-index in
    let all = c.args.all.now in
    let x = c.one-item.result in
    let h = c.different.ensures.outcome (names_before (take i all)) c.loop-one.invariant.names in
    record {
      names = names_turn all i x c.loop-one.taken c.different.new.taken c.as_slice-names.result.now c.different.result c.in_ok-held.field-0-1 (search rules) (search rules) (search rules)
          (search rules) c.different.ensures.taken c.loop-one.invariant.names;
      value = c.loop-one.invariant.value
          ∙ named_turn (words.around c.args.around.now) (map plain_field c.loop-one.done) all i x (words.state c.loop-one.state) (search rules) (search rules) _ (plain_type c.in_ok-held-2.kind) _
          (they_differ (names_before (take i all)) c.as_slice-names.result.now x.labels c.different.result c.in_ok-held.field-0-1 (search rules) (search rules) h) (search rules) (search rules);
    }

pub named_fields-returns-in_err-held : goal.named_fields-returns-in_err-held
named_fields-returns-in_err-held g t c =
    let i = c.loop-one.one-index in
    let all = c.args.all.now in
    let x = c.one-item.result in
    let h = c.different.ensures.outcome (names_before (take i all)) c.loop-one.invariant.names in
    let twice = one_twice (names_before (take i all)) c.as_slice-names.result.now x.labels c.different.result c.in_err-held.field-0.0 (search rules) (search rules) h in
    rw (named_first (words.around c.args.around.now) (plain.named_fields all) (words.state c.args.state.now)) (rw c.loop-one.invariant.value
    (rw (named_at (words.around c.args.around.now) (map plain_field c.loop-one.done) all i x (words.state c.loop-one.state) (search rules) (search rules)) (search (rules, twice))))

pub named_fields-returns-in_err-held-2 : goal.named_fields-returns-in_err-held-2
named_fields-returns-in_err-held-2 g t c =
    let i = c.loop-one.one-index in
    let all = c.args.all.now in
    let x = c.one-item.result in
    let h = c.different.ensures.outcome (names_before (take i all)) c.loop-one.invariant.names in
    let differ = they_differ (names_before (take i all)) c.as_slice-names.result.now x.labels c.different.result c.in_ok-held.field-0-1 (search rules) (search rules) h in
    rw (named_first (words.around c.args.around.now) (plain.named_fields all) (words.state c.args.state.now)) (rw c.loop-one.invariant.value
    (rw (named_at (words.around c.args.around.now) (map plain_field c.loop-one.done) all i x (words.state c.loop-one.state) (search rules) (search rules)) (rw differ (search rules))))

pub named_fields-returns : goal.named_fields-returns
named_fields-returns g t c = rw (named_first (words.around c.args.around.now) (plain.named_fields c.args.all.now) (words.state c.args.state.now)) (rw c.loop-one.invariant.value (rw (named_end (words.around c.args.around.now) (map plain_field c.loop-one.done) (names_before (take c.loop-one.one-index c.args.all.now)) c.args.all.now c.loop-one.one-index (words.state c.loop-one.state) (search rules)) (search rules)))
