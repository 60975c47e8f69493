use Rattle.std.proofs.Common.{ℕ, List, flat_map, slice_get, get_or, refl, subst}
use Rattle.config_rules.specs.Resolves.{Want, want}
use Rattle.import_binder.specs.Bindings.{IsRefused, Puts}
use Rattle.import_binder.specs.Places.{place_shown}
use Rattle.import_binder.proofs.Answered.{passed_on}
use Rattle.import_binder.proofs.Linking.{rest_more, rest_refused, rest_ends, next_of_each, none_of_each}
use Rattle.import_binder.proofs.Single.{want_is}
use Rattle.import_binder.proofs.links.put_import.Goals as goal

pub loop-number-preserved : goal.loop-number-preserved
loop-number-preserved c =
    let t = c.args.indexed.now.tree.now in
    let m = c.args.import.now in
    let items = c.as_slice-number-items.result.now in
    let n = get_or items c.loop-number.number-index 0 in
    let f : ℕ → List Want = λ n. want t c.args.instance.now c.args.record_name.now m.face (slice_get m.face.items n) in
    let is = want_is t c.args.instance.now c.args.record_name.now m.face (place_shown c.looked_up-place.result) c.looked_up-place.ensures (slice_get m.face.items n) in
    let P : List Want → Type 0 = λ ws. Puts c.loop-number.links c.put_link.new.links ws in
    rest_more c.args.links.now c.loop-number.links (flat_map f items) _ c.put_link.new.links (f n) _ (next_of_each f items c.loop-number.number-index n 0 c.loop-number-test.true refl)
    (subst P is c.in_ok-put_link.ensures.ok) c.loop-number.invariant

pub returns-in_err-put_link-clause-err : goal.returns-in_err-put_link-clause-err
returns-in_err-put_link-clause-err c =
    let t = c.args.indexed.now.tree.now in
    let m = c.args.import.now in
    let items = c.as_slice-number-items.result.now in
    let n = get_or items c.loop-number.number-index 0 in
    let f : ℕ → List Want = λ n. want t c.args.instance.now c.args.record_name.now m.face (slice_get m.face.items n) in
    let fault = c.in_err-put_link.field-0.0 in
    let is = want_is t c.args.instance.now c.args.record_name.now m.face (place_shown c.looked_up-place.result) c.looked_up-place.ensures (slice_get m.face.items n) in
    let P : List Want → Type 0 = λ ws. IsRefused t ws fault in
    let Q : List ℕ → Type 0 = λ ns. IsRefused t (flat_map f ns) fault in
    passed_on c.from_residual.result fault (λ e. IsRefused t (flat_map f m.used) e) c.from_residual.ensures.1
    (subst Q c.as_slice-number-items.ensures
    (rest_refused c.args.links.now c.loop-number.links (flat_map f items) _ t fault (f n) _ (next_of_each f items c.loop-number.number-index n 0 c.loop-number-test.true refl)
    (subst P is c.in_err-put_link.ensures.err) c.loop-number.invariant))

pub returns-clause-ok : goal.returns-clause-ok
returns-clause-ok c =
    let t = c.args.indexed.now.tree.now in
    let m = c.args.import.now in
    let items = c.as_slice-number-items.result.now in
    let f : ℕ → List Want = λ n. want t c.args.instance.now c.args.record_name.now m.face (slice_get m.face.items n) in
    let P : List ℕ → Type 0 = λ ns. Puts c.args.links.now c.loop-number.links (flat_map f ns) in
    subst P c.as_slice-number-items.ensures
    (rest_ends c.args.links.now c.loop-number.links (flat_map f items) _ (none_of_each f items c.loop-number.number-index c.loop-number-test.false) c.loop-number.invariant)
