-- What is noted of faces, one after the other.
use Rattle.std.proofs.Common.{◌≡◌, ℕ, ◌+◌, ◌<◌, ◌≤◌, length, map, take, drop, get_or, Bool, true, false, cond, List, [], ◌∷◌, ◌++◌, Option, Some, None, MatchOption, MatchBool, refl, sym, ap, subst, ◌∙◌, ⊎_elim, append-nil, append_assoc, arith}
use Rattle.std.specs.Prelude.{Contains, IsTrue, ◌↔◌}
use Rattle.std.specs.Map.{lookup}
use Rattle.std.proofs.lemmas.List.{map-append, take-append-drop, take_more, take_all}
use Rattle.std.proofs.lemmas.List.Elements.{Contains-append_left, Contains-push, Contains-push_cases}
use denote.Ref.{Bor}
use Rattle.mesa_types.specs.declared.faces.Face.{Face}
use Rattle.config_tree.specs.declared.face_key.FaceKey.{FaceKey}
use Rattle.config_tree.specs.FaceKeys.{key_of, same_key, keys_same, own_key}
use Rattle.config_tree.specs.Noted.{Entries, Noted, Notes}
use Rattle.config_rules.specs.Tree.{Agree}

keys_equal : (f g : Face) → f.name ≡ g.name → f.stamp ≡ g.stamp → key_of f ≡ key_of g
keys_equal f g p q = λ j. record { name = p j; stamp = q j }

-- faces that agree with more behind them agree
pub agree_before : (xs ys : List Face) → Agree (xs ++ ys) → Agree xs
agree_before xs ys agree f g at_f at_g = agree f g (Contains-append_left xs ys f at_f) (Contains-append_left xs ys g at_g)

agree_with : (faces : List Face) (f : Face) → Agree faces → ((h : Face) → Contains faces h → key_of h ≡ key_of f → h ≡ f) → Agree (faces ++ f ∷ [])
agree_with faces f agree alike g h at_g at_h names stamps =
    ⊎_elim
    (λ p. ⊎_elim
    (λ q. agree g h p q names stamps)
    (λ q. alike g p (keys_equal g h names stamps ∙ sym (ap key_of q)) ∙ q)
    (Contains-push_cases faces f h at_h))
    (λ p. ⊎_elim
    (λ q. sym p ∙ sym (alike h q (sym (keys_equal g h names stamps) ∙ sym (ap key_of p))))
    (λ q. sym p ∙ q)
    (Contains-push_cases faces f h at_h))
    (Contains-push_cases faces f g at_g)

-- ---- one face

-- no face of the key, or one that is kept
abbrev Kept : List Face → FaceKey → Option (Bor Face) → Type 0
Kept faces key o = MatchOption o ((f : Face) → Contains faces f → key_of f ≡ key → ⊥) (λ g. Contains faces g.now × (key_of g.now ≡ key))

kept_more : (faces : List Face) (f : Face) (key : FaceKey) (o : Option (Bor Face)) → (key_of f ≡ key → Kept (faces ++ f ∷ []) key o) → (same_key (key_of f) key ≡ false → Kept faces key o)
    → Kept (faces ++ f ∷ []) key o
kept_more faces f key o same others = by (same_key (key_of f) key) refl
  where
    past : (o : Option (Bor Face)) → same_key (key_of f) key ≡ false → Kept faces key o → Kept (faces ++ f ∷ []) key o
    past None e h = λ g at is. ⊎_elim (λ p. h g p is) (λ p. let q : true ≡ false = sym (own_key key) ∙ ap (λ k. same_key k key) (sym is ∙ sym (ap key_of p)) ∙ e in cc) (Contains-push_cases faces f g at)
    past (Some g) e h = (Contains-append_left faces (f ∷ []) g.now h.0, h.1)

    by : (b : Bool) → same_key (key_of f) key ≡ b → Kept (faces ++ f ∷ []) key o
    by true e = same (keys_same (key_of f) key e)
    by false e = past o e (others e)

module _ (faces : List Face) (old : Entries) (f : Face) (n : Notes faces old) where
  found_here : (o : Option (Bor Face)) → lookup (same_key (key_of f)) old ≡ o → Kept faces (key_of f) o
  found_here o e = subst (Kept faces (key_of f)) e (n.found (key_of f))

  -- its like was seen
  pub seen_before : (g : Bor Face) → lookup (same_key (key_of f)) old ≡ Some g → g.now ≡ f → Notes (faces ++ f ∷ []) old
  seen_before g e is =
      let here = found_here (Some g) e in
      record {
        agree = agree_with faces f n.agree (λ h at key. n.agree h g.now at here.0 (ap (λ k. k.name) (key ∙ sym here.1)) (ap (λ k. k.stamp) (key ∙ sym here.1)) ∙ is);
        found = λ key. kept_more faces f key (lookup (same_key key) old)
            (λ same. subst (Kept (faces ++ f ∷ []) key) (sym e ∙ ap (λ k. lookup (same_key k) old) same) (Contains-append_left faces (f ∷ []) g.now here.0, here.1 ∙ same))
            (λ _. n.found key);
      }

  -- another of its name and stamp was seen
  pub seen_other : (g : Bor Face) → lookup (same_key (key_of f)) old ≡ Some g → (g.now ≡ f → ⊥) → Agree (faces ++ f ∷ []) → ⊥
  seen_other g e differs agree =
      let here = found_here (Some g) e in
      differs (agree g.now f (Contains-append_left faces (f ∷ []) g.now here.0) (Contains-push faces f) (ap (λ k. k.name) here.1) (ap (λ k. k.stamp) here.1))

  -- none of its name and stamp was seen, and it is kept
  pub seen_first : (new : Entries) (g : Bor Face) → g.now ≡ f → lookup (same_key (key_of f)) old ≡ None
      → ((q : FaceKey) → lookup (same_key q) new ≡ cond (same_key (key_of f) q) (Some g) (lookup (same_key q) old)) → Notes (faces ++ f ∷ []) new
  seen_first new g is e kept =
      let here = found_here None e in
      record {
        agree = agree_with faces f n.agree (λ h at key. absurd (here h at key));
        found = λ key. kept_more faces f key (lookup (same_key key) new)
            (λ same. subst (Kept (faces ++ f ∷ []) key)
            (sym (kept key ∙ ap (λ k. cond (same_key (key_of f) k) (Some g) (lookup (same_key key) old)) (sym same) ∙ ap (λ b. cond b (Some g) (lookup (same_key key) old)) (own_key (key_of f))))
            (subst (Contains (faces ++ f ∷ [])) (sym is) (Contains-push faces f), ap key_of is ∙ same))
            (λ differs. subst (Kept faces key) (sym (kept key ∙ ap (λ b. cond b (Some g) (lookup (same_key key) old)) differs)) (n.found key));
      }

-- ---- several faces

pub noted_none : (kept : Entries) → Noted kept [] kept true
noted_none kept faces n = subst (λ l. Notes l kept) (sym (append-nil faces)) n

pub noted_more : (a b c : Entries) (xs ys : List Face) (same : Bool) → Noted a xs b true → Noted b ys c same → Noted a (xs ++ ys) c same
noted_more a b c xs ys same first then faces n =
    subst (λ l. MatchBool same (Notes l c) (Agree l → ⊥)) (append_assoc faces xs ys) (then (faces ++ xs) (first faces n))

pub noted_stop : (a b c : Entries) (xs ys : List Face) → Noted a xs b false → Noted a (xs ++ ys) c false
noted_stop a b c xs ys first faces n agree = first faces n (agree_before (faces ++ xs) ys (subst Agree (sym (append_assoc faces xs ys)) agree))

pub noted_by : (same : Bool) (old : Entries) (f : Face) (g : Bor Face) (key : FaceKey) → key ≡ key_of f → Some g ≡ lookup (same_key key) old → IsTrue same ↔ (g.now ≡ f) → Noted old (f ∷ []) old same
noted_by true old f g key k e is faces n = seen_before faces old f n g (sym (e ∙ ap (λ q. lookup (same_key q) old) k)) (is.0 refl)
noted_by false old f g key k e is faces n = seen_other faces old f n g (sym (e ∙ ap (λ q. lookup (same_key q) old) k)) (λ same. let q : false ≡ true = is.1 same in cc)

pub noted_new : (old new : Entries) (g : Bor Face) (key : FaceKey) → key ≡ key_of g.now → None ≡ lookup (same_key key) old
    → ((q : FaceKey) → lookup (same_key q) new ≡ cond (same_key key q) (Some g) (lookup (same_key q) old)) → Noted old (g.now ∷ []) new true
noted_new old new g key k e kept faces n =
    seen_first faces old g.now n new g refl (sym (e ∙ ap (λ q. lookup (same_key q) old) k))
    (λ q. kept q ∙ ap (λ p. cond (same_key p q) (Some g) (lookup (same_key q) old)) k)

-- the first face of all
pub noted_one : (new : Entries) (g : Bor Face) (key : FaceKey) → key ≡ key_of g.now
    → ((q : FaceKey) → lookup (same_key q) new ≡ cond (same_key key q) (Some g) None) → Notes (g.now ∷ []) new
noted_one new g key k kept =
    noted_new [] new g key k refl kept [] (record { agree = λ a b at. absurd (none_in a at); found = λ q a at is. none_in a at })
  where
    none_in : (a : Face) → Contains [] a → ⊥
    none_in a at = omega (arith, at.1)

-- the faces of a list's elements, of which so many are noted
module _ {X : Type 0} (face_of : X → Face) (a b : Entries) (xs : List X) (i : ℕ) where
  more_faces : (x d : X) → i < length xs → x ≡ get_or xs i d → map face_of (take (i + 1) xs) ≡ map face_of (take i xs) ++ face_of x ∷ []
  more_faces x d less is =
      ap (λ l. map face_of l) (take_more xs i d less ∙ ap (λ y. take i xs ++ y ∷ []) (sym is)) ∙ map-append face_of (take i xs) (x ∷ [])

  pub one_noted : (c : Entries) (x d : X) (s same : Bool) → s ≡ same → i < length xs → x ≡ get_or xs i d → Noted a (map face_of (take i xs)) b true → Noted b (face_of x ∷ []) c s
      → Noted a (map face_of (take (i + 1) xs)) c same
  one_noted c x d s same e less is first then =
      subst (λ l. Noted a l c same) (sym (more_faces x d less is))
      (noted_more a b c (map face_of (take i xs)) (face_of x ∷ []) same first (subst (λ t. Noted b (face_of x ∷ []) c t) e then))

  pub one_refused : (c : Entries) (x d : X) (s : Bool) → s ≡ false → i < length xs → x ≡ get_or xs i d → Noted a (map face_of (take i xs)) b true → Noted b (face_of x ∷ []) c s
      → Noted a (map face_of xs) c false
  one_refused c x d s e less is first then =
      subst (λ l. Noted a l c false) (sym (map-append face_of (take (i + 1) xs) (drop (i + 1) xs)) ∙ ap (λ l. map face_of l) (take-append-drop (i + 1) xs))
      (noted_stop a c c (map face_of (take (i + 1) xs)) (map face_of (drop (i + 1) xs)) (one_noted c x d s false e less is first then))

  pub all_noted : length xs ≤ i → Noted a (map face_of (take i xs)) b true → Noted a (map face_of xs) b true
  all_noted past first = subst (λ l. Noted a (map face_of l) b true) (take_all i xs past) first
