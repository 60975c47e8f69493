-- What is noted of the faces of shapes, one after the other, behind the built-in interface's face.
use Rattle.std.proofs.Common.{◌≡◌, ℕ, suc, ◌+◌, ◌<◌, ◌≤◌, length, take, flat_map, get_or, Bool, true, false, List, [], ◌∷◌, ◌++◌, Result, Ok, Err, IfOk, MatchBool, sym, ap, subst, ◌∙◌, append-nil, arith}
use Rattle.std.proofs.lemmas.List.{take_more, take_all}
use Rattle.std.proofs.lemmas.List.Concat.{flat_map-append}
use Rattle.mesa_types.specs.declared.faces.Face.{Face}
use Rattle.mesa_types.specs.declared.faces.Shape.{Shape}
use Rattle.interface_records.specs.Faces.{iodefs}
use Rattle.config_rules.specs.Tree.{Agree, FirstToDiffer, all_faces, faces_of}
use Rattle.config_tree.specs.Noted.{Entries, Noted, Notes}
use Rattle.config_tree.proofs.Noting.{noted_more, noted_stop}

pub if_ok : {T E : Type 0} (P Q : T → Type 0) (r : Result T E) → ((v : T) → P v → Q v) → IfOk r P → IfOk r Q
if_ok P Q (Ok v) more h = more v h
if_ok P Q (Err e) more h = h

-- imports, then exports
pub both_noted : (a b c : Entries) (xs ys zs ws : List Face) (s t : Bool) → xs ≡ zs → ys ≡ ws → s ≡ true → Noted a xs b s → Noted b ys c t → Noted a (zs ++ ws) c t
both_noted a b c xs ys zs ws s t p q e first then =
    noted_more a b c zs ws t (subst (λ l. Noted a l b true) p (subst (λ u. Noted a xs b u) e first)) (subst (λ l. Noted b l c t) q then)

pub first_refused : (a b c : Entries) (xs zs ws : List Face) (s : Bool) → xs ≡ zs → s ≡ false → Noted a xs b s → Noted a (zs ++ ws) c s
first_refused a b c xs zs ws s p e first =
    subst (λ u. Noted a (zs ++ ws) c u) (sym e) (noted_stop a b c zs ws (subst (λ l. Noted a l b false) p (subst (λ u. Noted a xs b u) e first)))

with_shape : (xs : List Shape) (x : Shape) → all_faces (xs ++ x ∷ []) ≡ all_faces xs ++ faces_of x
with_shape xs x = ap (λ l. iodefs.face ∷ l) (flat_map-append faces_of xs (x ∷ []) ∙ ap (λ l. flat_map faces_of xs ++ l) (append-nil (faces_of x)))

-- whether the faces are those of the shapes still agree, and what is noted then
module _ (xs : List Shape) (x : Shape) (seen new : Entries) (n : Notes (all_faces xs) seen) where
  shape_noted : (same : Bool) → Noted seen (faces_of x) new same → MatchBool same (Notes (all_faces (xs ++ x ∷ [])) new) (Agree (all_faces (xs ++ x ∷ [])) → ⊥)
  shape_noted same h = subst (λ l. MatchBool same (Notes l new) (Agree l → ⊥)) (sym (with_shape xs x)) (h (all_faces xs) n)

  agreeing : (same : Bool) → MatchBool same (Notes (all_faces (xs ++ x ∷ [])) new) (Agree (all_faces (xs ++ x ∷ [])) → ⊥)
      → MatchBool same (Agree (all_faces (xs ++ x ∷ []))) (Agree (all_faces (xs ++ x ∷ [])) → ⊥)
  agreeing true h = h.agree
  agreeing false h = h

  pub shape_told : (same : Bool) → Noted seen (faces_of x) new same → MatchBool same (Agree (all_faces (xs ++ x ∷ []))) (Agree (all_faces (xs ++ x ∷ [])) → ⊥)
  shape_told same h = agreeing same (shape_noted same h)

module _ (shapes : List Shape) (n : ℕ) (seen : Entries) (noted : Notes (all_faces (take n shapes)) seen) where
  module _ (x d : Shape) (less : n < length shapes) (is : x ≡ get_or shapes n d) (new : Entries) (s : Bool) (h : Noted seen (faces_of x) new s) where
    one_more : take (n + 1) shapes ≡ take n shapes ++ x ∷ []
    one_more = take_more shapes n d less ∙ ap (λ y. take n shapes ++ y ∷ []) (sym is)

    pub next_shape : s ≡ true → Notes (all_faces (take (n + 1) shapes)) new
    next_shape e =
        subst (λ l. Notes (all_faces l) new) (sym one_more)
        (shape_noted (take n shapes) x seen new noted true (subst (λ u. Noted seen (faces_of x) new u) e h))

    pub refused_shape : s ≡ false → FirstToDiffer shapes n
    refused_shape e = record {
      before = noted.agree;
      then_not = λ agree.
          shape_noted (take n shapes) x seen new noted false (subst (λ u. Noted seen (faces_of x) new u) e h)
          (subst (λ l. Agree (all_faces l)) (ap (λ k. take k shapes) {x = suc n} {y = n + 1} (omega arith) ∙ one_more) agree);
    }

  pub all_shapes : length shapes ≤ n → Agree (all_faces shapes)
  all_shapes past = subst (λ l. Agree (all_faces l)) (take_all n shapes past) noted.agree
