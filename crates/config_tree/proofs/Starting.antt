-- What is started, name by name, is what the CONTROL list starts.
use Rattle.std.proofs.Common.{◌≡◌, ℕ, ◌+◌, ◌<◌, ◌≤◌, length, drop, flat_map, get_or, nat_eq, Bool, true, false, cond, ◌||◌, List, [], ◌∷◌, ◌++◌, Some, is_some, bytes_eq, Result, Ok, Err, OnOk, refl, sym, ap, subst, ◌∙◌, append-nil, append_assoc, if◌then◌else◌}
use Rattle.std.proofs.lemmas.Bool.Decides.{Decides-eqb}
use Rattle.std.proofs.lemmas.List.{drop_more, drop_all}
use Rattle.std.proofs.lemmas.Slice.Eq.{bytes_eq-Decides}
use Rattle.std.specs.List.{list_any}
use Rattle.indexmap.specs.IndexSet.{insert_key}
use Rattle.check_scopes.specs.Scopes.{Scope, with_name}
use Rattle.check_scopes.specs.Shows.{listed}
use Rattle.check_scopes.specs.declared.index.Index.{Index}
use Rattle.config_rules.specs.Grown.{is_in, once}
use Rattle.config_tree.specs.Started.{AllAmong, AreStarted, added, started_at}

any_append : (p : ℕ → Bool) (xs ys : List ℕ) → list_any p (xs ++ ys) ≡ list_any p xs || list_any p ys
any_append p [] ys = refl
any_append p (x ∷ xs) ys = by (p x) (any_append p xs ys)
  where
    by : (b : Bool) → list_any p (xs ++ ys) ≡ list_any p xs || list_any p ys → b || list_any p (xs ++ ys) ≡ (b || list_any p xs) || list_any p ys
    by true h = refl
    by false h = h

-- ---- what is among them stays

among_more : (p : ℕ → Bool) (started : List ℕ) (n : ℕ) → list_any p started ≡ true → list_any p (insert_key nat_eq started n) ≡ true
among_more p started n h = by (list_any (nat_eq n) started)
  where
    by : (b : Bool) → list_any p (if b then started else started ++ n ∷ []) ≡ true
    by true = h
    by false = any_append p started (n ∷ []) ∙ ap (λ b. b || list_any p (n ∷ [])) h

among_own : (started : List ℕ) (n : ℕ) → list_any (nat_eq n) (insert_key nat_eq started n) ≡ true
among_own started n = by (list_any (nat_eq n) started) refl
  where
    or_true : (a b : Bool) → b ≡ true → a || b ≡ true
    or_true true b e = refl
    or_true false b e = e

    by : (b : Bool) → list_any (nat_eq n) started ≡ b → list_any (nat_eq n) (if b then started else started ++ n ∷ []) ≡ true
    by true e = e
    by false e = any_append (nat_eq n) started (n ∷ []) ∙ or_true (list_any (nat_eq n) started) (list_any (nat_eq n) (n ∷ [])) (ap (λ b. b || false) ((Decides-eqb n n).1 refl))

among_added : (p : ℕ → Bool) (started ns : List ℕ) → list_any p started ≡ true → list_any p (added started ns) ≡ true
among_added p started [] h = h
among_added p started (n ∷ ns) h = among_added p (insert_key nat_eq started n) ns (among_more p started n h)

pub all_stay : (started ns ms : List ℕ) → AllAmong started ms → AllAmong (added started ns) ms
all_stay started ns [] h = tt
all_stay started ns (m ∷ ms) h = (among_added (nat_eq m) started ns h.0, all_stay started ns ms h.1)

pub all_added : (started ns : List ℕ) → AllAmong (added started ns) ns
all_added started [] = tt
all_added started (n ∷ ns) = (among_added (nat_eq n) (insert_key nat_eq started n) ns (among_own started n), all_added (insert_key nat_eq started n) ns)

pub none_added : (started ns : List ℕ) → AllAmong started ns → added started ns ≡ started
none_added started [] h = refl
none_added started (n ∷ ns) h =
    let same : insert_key nat_eq started n ≡ started = ap (λ b. if b then started else started ++ n ∷ []) h.0 in
    ap (λ l. added l ns) same ∙ none_added started ns h.1

pub added_append : (started xs ys : List ℕ) → added started (xs ++ ys) ≡ added (added started xs) ys
added_append started [] ys = refl
added_append started (x ∷ xs) ys = added_append (insert_key nat_eq started x) xs ys

-- ---- each once

once_behind : (started before ns : List ℕ) → ((m : ℕ) → is_in m before ≡ list_any (nat_eq m) started) → added started ns ≡ started ++ once before ns
unfolding once is_in
once_behind started before [] same = sym (append-nil started)
once_behind started before (n ∷ ns) same = by (is_in n before) (list_any (nat_eq n) started) (same n) (once_behind started before ns same) (once_behind (started ++ n ∷ []) (n ∷ before) ns one_more)
  where
    or_swapped : (a b : Bool) → a || b ≡ b || (a || false)
    or_swapped true true = refl
    or_swapped true false = refl
    or_swapped false true = refl
    or_swapped false false = refl

    one_more : (m : ℕ) → is_in m (n ∷ before) ≡ list_any (nat_eq m) (started ++ n ∷ [])
    one_more m = ap (λ b. nat_eq m n || b) (same m) ∙ or_swapped (nat_eq m n) (list_any (nat_eq m) started) ∙ sym (any_append (nat_eq m) started (n ∷ []))

    by : (a b : Bool) → a ≡ b → added started ns ≡ started ++ once before ns → added (started ++ n ∷ []) ns ≡ (started ++ n ∷ []) ++ once (n ∷ before) ns
        → added (if b then started else started ++ n ∷ []) ns ≡ started ++ (if a then once before ns else n ∷ once (n ∷ before) ns)
    by true true e there new = there
    by false false e there new = new ∙ append_assoc started (n ∷ []) (once (n ∷ before) ns)
    by true false e there new = absurd (let f : true ≡ false = e in cc)
    by false true e there new = absurd (let f : false ≡ true = e in cc)

pub once_added : (ns : List ℕ) → added [] ns ≡ once [] ns
unfolding is_in
once_added ns = once_behind [] [] ns (λ m. refl)

-- ---- the steps of the calls

pub add_more : (now new all numbers : List ℕ) (i n d : ℕ) → i < length numbers → n ≡ get_or numbers i d → new ≡ insert_key nat_eq now n → added now (drop i numbers) ≡ all
    → added new (drop (i + 1) numbers) ≡ all
add_more now new all numbers i n d less is grown before =
    ap (λ l. added l (drop (i + 1) numbers)) grown ∙ ap (λ l. added now l) (ap (λ m. m ∷ drop (i + 1) numbers) is ∙ sym (drop_more numbers i d less)) ∙ before

pub add_end : (now all numbers : List ℕ) (i : ℕ) → length numbers ≤ i → added now (drop i numbers) ≡ all → now ≡ all
add_end now all numbers i past before = ap (λ l. added now l) (sym (drop_all i numbers past)) ∙ before

module _ {X : Type 0} (f : X → List ℕ) (now : List ℕ) (xs : List X) (i : ℕ) (all : List ℕ) where
  pub start_more : (new : List ℕ) (x d : X) → i < length xs → x ≡ get_or xs i d → new ≡ added now (f x) → added now (flat_map f (drop i xs)) ≡ all → added new (flat_map f (drop (i + 1) xs)) ≡ all
  start_more new x d less is grown before =
      ap (λ l. added l (flat_map f (drop (i + 1) xs))) grown ∙ sym (added_append now (f x) (flat_map f (drop (i + 1) xs)))
      ∙ ap (λ l. added now (flat_map f l)) (ap (λ y. y ∷ drop (i + 1) xs) is ∙ sym (drop_more xs i d less)) ∙ before

  pub start_end : length xs ≤ i → added now (flat_map f (drop i xs)) ≡ all → now ≡ all
  start_end past before = ap (λ l. added now (flat_map f l)) (sym (drop_all i xs past)) ∙ before

-- ---- the names that are done

pub on_ok : {T E : Type 0} (P Q : Type 0) (r : Result T E) → (P → Q) → OnOk r P → OnOk r Q
on_ok P Q (Ok v) more h = more h
on_ok P Q (Err e) more h = h

module _ {T : Type 0} (starts : Index (List ℕ)) (name : List ℕ) where
  pub done_before : (done : Index T) (started bytes : List ℕ) (r : Bool) → AreStarted starts done started → bytes ≡ name → r ≡ is_some (listed done bytes) → r ≡ true
      → started ≡ added started (started_at starts name)
  done_before done started bytes r are same is e =
      sym (none_added started (started_at starts name) (are name (ap (λ b. is_some (listed done b)) (sym same) ∙ sym is ∙ e)))

  pub one_done : (old new : Index T) (u : T) (started more numbers bytes : List ℕ) → AreStarted starts old started → bytes ≡ name → listed new ≡ with_name bytes u (listed old)
      → started_at starts name ≡ numbers → more ≡ added started numbers → AreStarted starts new more
  one_done old new u started more numbers bytes are same declared is grown x h = by (bytes_eq name x) refl
    where
      told : is_some (cond (bytes_eq name x) (Some u) (listed old x)) ≡ true
      told = ap (λ b. is_some (cond (bytes_eq b x) (Some u) (listed old x))) (sym same) ∙ ap (λ (s : Scope T). is_some (s x)) (sym declared) ∙ h

      by : (b : Bool) → bytes_eq name x ≡ b → AllAmong more (started_at starts x)
      by true e =
          subst (λ y. AllAmong more (started_at starts y)) ((bytes_eq-Decides name x).0 e)
          (subst (λ l. AllAmong l (started_at starts name)) (ap (λ l. added started l) is ∙ sym grown) (all_added started (started_at starts name)))
      by false e =
          subst (λ l. AllAmong l (started_at starts x)) (sym grown)
          (all_stay started numbers (started_at starts x) (are x (ap (λ b. is_some (cond b (Some u) (listed old x))) (sym e) ∙ told)))
