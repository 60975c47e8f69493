-- An ordered index of names after a name has got its meaning, or was taken out.
use Rattle.std.proofs.Common.{◌≡◌, ℕ, Bool, true, false, List, [], ◌∷◌, length, ◌<◌, Option, Some, None, refl, arith, sym, ap, subst, ◌∙◌}
use Rattle.std.proofs.lemmas.Bool.{cases_Bool, cond-true, cond-false, false≢true}
use Rattle.std.specs.Option.{option_or}
use Rattle.std.specs.Str.{bytes_eq}
use Rattle.std.specs.Map.{update, lookup, KeepsOthers, IsKeyTest, AreApart}
use Rattle.std.specs.BTreeMap.{BTreeMap, UpdatesBy, get_by}
use Rattle.std.specs.Ordering.{nat_cmp, is_eq}
use Rattle.std.specs.Cmp.{eq_by_cmp_equiv}
use Rattle.std.specs.Cmp.Lexicographic.{slice_cmp, bytes_decides, nat_list_cmp_total, nat_list_eq_equiv}
use Rattle.std.specs.declared.vec.Vec.{Vec}
use Rattle.std.specs.declared.alloc.Global.{Global}
use Rattle.std.proofs.lemmas.Map.Text.{is_eq-slice_cmp}
use Rattle.check_scopes.specs.Scopes.{Scope, nothing, over, with_name}
use Rattle.check_scopes.specs.Shows.{indexed}
use mathlib.Core.Logic.{⊎_elim}

-- a key that is the one name is not the other
another_key : (x y key : List ℕ) → bytes_eq x y ≡ false → is_eq (slice_cmp nat_cmp x key) ≡ true → is_eq (slice_cmp nat_cmp y key) ≡ false
another_key x y key differ is_x =
    is_eq-slice_cmp y key ∙ nat_list_eq_equiv.symm y key
    ∙ sym (nat_list_eq_equiv.congr x key y (sym (is_eq-slice_cmp x key) ∙ is_x)) ∙ differ

module _ {K : Type 0} (eq : K → K → Bool) (test : K → Bool) where
  others_stay : {X : Type 0} (old new : List (K × X)) → KeepsOthers eq test old new
      → (other : K → Bool) → IsKeyTest eq other → AreApart test other → lookup other new ≡ lookup other old
  unfolding KeepsOthers
  others_stay old new kept = kept

-- a function that has this value under the name, and under the others what it had
changed_at : {X : Type 0} (old new : List ℕ → Option X) (x : List ℕ) (value : Option X) → new x ≡ value
    → ((y : List ℕ) → bytes_eq x y ≡ false → new y ≡ old y) → (y : List ℕ) → new y ≡ update bytes_eq old x value y
changed_at old new x value here others y = ⊎_elim
    (λ same. subst (λ z. new z ≡ value) ((bytes_decides x y).0 same) here ∙ sym (cond-true (bytes_eq x y) value (old y) same))
    (λ differ. others y differ ∙ sym (cond-false (bytes_eq x y) value (old y) differ))
    (cases_Bool (bytes_eq x y))

pub indexed-updated : {T : Type 0} (key : Vec ℕ Global) (old new : BTreeMap (Vec ℕ Global) T) (value : Option T)
    → UpdatesBy (λ a b. slice_cmp nat_cmp a.items b.items) (λ k. slice_cmp nat_cmp key.items k.items) old new value
    → indexed new ≡ update bytes_eq (indexed old) key.items value
unfolding indexed
indexed-updated key old new value h = λ i y. changed_at (indexed old) (indexed new) key.items value h.1
    (λ x differ. others_stay _ _ _ _ h.3 _ (λ a b. (eq_by_cmp_equiv nat_list_cmp_total).congr x a.items b.items)
    (λ k. another_key key.items x k.items differ)) y i

-- A name that is moved from the scope that hides to the one that is hidden: together they mean what they meant.
moved : {T : Type 0} (inner outer : Scope T) (x : List ℕ) (meaning : T) → inner x ≡ Some meaning
    → over (update bytes_eq inner x None) (with_name x meaning outer) ≡ over inner outer
moved inner outer x meaning is_it = λ i y. ⊎_elim
    (λ same. let here : inner y ≡ Some meaning = subst (λ z. inner z ≡ Some meaning) ((bytes_decides x y).0 same) is_it in
    ap (λ o. option_or o (with_name x meaning outer y)) (cond-true (bytes_eq x y) None (inner y) same)
    ∙ cond-true (bytes_eq x y) (Some meaning) (outer y) same
    ∙ sym (ap (λ o. option_or o (outer y)) here))
    (λ differ.
    ap (λ o. option_or o (with_name x meaning outer y)) (cond-false (bytes_eq x y) None (inner y) differ)
    ∙ ap (option_or (inner y)) (cond-false (bytes_eq x y) (Some meaning) (outer y) differ))
    (cases_Bool (bytes_eq x y)) i

pub indexed-moved : {T : Type 0} (key : Vec ℕ Global) (inner inner_after outer outer_after : BTreeMap (Vec ℕ Global) T) (meaning : T)
    → get_by (λ k. slice_cmp nat_cmp key.items k.items) inner ≡ Some meaning
    → UpdatesBy (λ a b. slice_cmp nat_cmp a.items b.items) (λ k. slice_cmp nat_cmp key.items k.items) inner inner_after None
    → UpdatesBy (λ a b. slice_cmp nat_cmp a.items b.items) (λ k. slice_cmp nat_cmp key.items k.items) outer outer_after (Some meaning)
    → over (indexed inner_after) (indexed outer_after) ≡ over (indexed inner) (indexed outer)
unfolding indexed
indexed-moved key inner inner_after outer outer_after meaning is_it taken put =
    ap (λ s. over s (indexed outer_after)) (indexed-updated key inner inner_after None taken)
    ∙ ap (over (update bytes_eq (indexed inner) key.items None)) (indexed-updated key outer outer_after (Some meaning) put)
    ∙ moved (indexed inner) (indexed outer) key.items meaning is_it

pub indexed-empty : {T : Type 0} (inner : BTreeMap (Vec ℕ Global) T) (outer : Scope T) → inner.entries ≡ [] → over (indexed inner) outer ≡ outer
unfolding indexed
indexed-empty inner outer e = λ i y. ap (λ es. option_or (lookup (λ k. is_eq (slice_cmp nat_cmp y k.items)) es) (outer y)) e i

pub none_left : {X : Type 0} (es : List X) → (0 < length es → false ≡ true) → es ≡ []
none_left [] h = refl
none_left (e ∷ es) h = absurd (false≢true (h (omega arith)))

pub indexed-none : {T : Type 0} (index : BTreeMap (Vec ℕ Global) T) → index.entries ≡ [] → indexed index ≡ nothing
unfolding indexed
indexed-none index e = λ i y. ap (λ es. lookup (λ k. is_eq (slice_cmp nat_cmp y k.items)) es) e i

pub no_entries : {X : Type 0} (es : List X) → length es ≡ 0 → es ≡ []
no_entries [] h = refl
no_entries (e ∷ es) h = absurd (omega (arith, h))
