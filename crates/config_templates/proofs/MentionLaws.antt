-- The turns of the walk that finds the modules which a configuration mentions.
use Rattle.std.proofs.Common.{◌≡◌, ℕ, Bool, true, false, ◌||◌, List, [], ◌∷◌, ◌++◌, Option, Some, None, is_some, refl, sym, ap, subst, ◌∙◌, append_assoc}
use Rattle.std.specs.Prelude.{reverse, cond, bytes_eq, not}
use Rattle.std.specs.Option.{option_or, option_copied}
use denote.Bor.{Bor}
use Rattle.std.proofs.lemmas.List.{append-nil, reverse-append, map-append}
use Rattle.std.specs.Cmp.Lexicographic.{nat_list_eq_equiv}
use Rattle.check_scopes.specs.Scopes.{Scope, has, find, innermost, outer, nothing, with_name}
use Rattle.check_scopes.specs.Shows.{listed}
use Rattle.check_scopes.specs.declared.index.Index.{Index}
use Rattle.check_scopes.proofs.Laws.{has_none, has_one_more}
use Rattle.cmesa_grammar.specs.Syntax.{Identifier, Configuration, Configured, Statements, NoStatements, AndDeclare, AndInstance}
use Rattle.cmesa_grammar.specs.declared.syntax.Heading.{Heading}
use Rattle.cmesa_grammar.specs.declared.syntax.Instantiation.{Instantiation}
use Rattle.config_rules.specs.Components.{names_of, own_name, mentions, mentions_in, first_mentions}
use Rattle.config_templates.specs.Known.{Knows}
use Rattle.config_templates.specs.Mentioned.{mentions_by, mentions_in_by, in_scopes, so_far, names_before, finished, Went, Passed, now}
use Rattle.config_templates.specs.declared.mentioned.Mentioned.{Mentioned}

-- ---- an index of names

pub no_names : (index : Index (Unit {0})) → listed index ≡ nothing → Knows index []
no_names index e = record { each = λ x. has_none (Unit {0}) x ∙ sym (ap (λ (s : Scope (Unit {0})). is_some (s x)) e) }

pub one_name_more : (old new : Index (Unit {0})) (bytes name : List ℕ) → bytes ≡ name → listed new ≡ with_name bytes tt (listed old)
    → (names : List (List ℕ)) → Knows old names → Knows new (name ∷ names)
one_name_more old new bytes name b e names k = record {
  each = λ x. has_one_more name tt names (listed old) k.each x ∙ ap (λ (s : Scope (Unit {0})). is_some (s x)) (sym (e ∙ ap (λ y. with_name y tt (listed old)) b));
}

pub asked : (index : Index (Unit {0})) (bytes name : List ℕ) (r : Bool) → bytes ≡ name → r ≡ is_some (listed index bytes)
    → (names : List (List ℕ)) → Knows index names → r ≡ has name names
asked index bytes name r b e names k = e ∙ ap (λ y. is_some (listed index y)) b ∙ sym (k.each name)

-- ---- a list, and one more at its end

pub newest_first : (is : List Identifier) (i : Identifier) → names_before (is ++ i ∷ []) ≡ i.name ∷ names_before is
newest_first is i = ap reverse (map-append (λ (j : Identifier). j.name) is (i ∷ [])) ∙ reverse-append (names_of is) (i.name ∷ [])

pub none_new : (first : List Identifier) (i : Identifier) (rest : List Identifier) → has i.name (names_before first) ≡ true → finished first (i ∷ rest) ≡ finished first rest
unfolding finished first_mentions
none_new first i rest h = rw h refl

pub one_new : (first longer : List Identifier) (i : Identifier) (rest : List Identifier) → has i.name (names_before first) ≡ false → longer ≡ first ++ i ∷ []
    → finished first (i ∷ rest) ≡ finished longer rest
unfolding finished first_mentions
one_new first longer i rest h e =
    rw h (sym (append_assoc first (i ∷ []) (first_mentions (i.name ∷ names_before first) rest))
    ∙ ap (λ b. (first ++ i ∷ []) ++ first_mentions b rest) (sym (newest_first first i))
    ∙ ap (λ l. l ++ first_mentions (names_before l) rest) (sym e))

pub all_finished : (all : List Identifier) (is : List Identifier) → finished [] (is ++ []) ≡ finished all [] → all ≡ first_mentions [] is
unfolding finished first_mentions
all_finished all is e = sym (append-nil all) ∙ sym e ∙ ap (first_mentions []) (append-nil is)

-- ---- scopes, as a test

test_of : (b : Bool) (o p : Option (Unit {0})) → is_some (option_or (cond b (Some tt) o) p) ≡ (b || is_some (option_or o p))
test_of true o p = refl
test_of false o p = refl

pub declared : (n : List ℕ) (scopes : List (Scope (Unit {0}))) → in_scopes (with_name n tt (innermost scopes) ∷ outer scopes) ≡ (λ x. bytes_eq x n || in_scopes scopes x)
declared n [] = λ i x. (test_of (bytes_eq n x) None None ∙ ap (λ b. b || false) (nat_list_eq_equiv.symm n x)) i
declared n (s ∷ ss) = λ i x. (test_of (bytes_eq n x) (s x) (find x ss) ∙ ap (λ b. b || is_some (option_or (s x) (find x ss))) (nat_list_eq_equiv.symm n x)) i

pub asked_scopes : (s : List (Scope (Unit {0}))) (r : Option (Bor (Unit {0}))) (bytes name : List ℕ) (b : Bool) → option_copied r ≡ find bytes s → bytes ≡ name → is_some r ≡ not b
    → in_scopes s name ≡ not b
asked_scopes s r bytes name b found e none = ap (in_scopes s) (sym e) ∙ sym (ap is_some found) ∙ copied r ∙ none
  where
    copied : (o : Option (Bor (Unit {0}))) → is_some (option_copied o) ≡ is_some o
    copied None = refl
    copied (Some x) = refl

mutual
  unfolding mentions_by mentions_in_by mentions mentions_in has

  mentions_has : (nested : List (List ℕ)) (c : Configuration) → mentions_by (λ x. has x nested) c ≡ mentions nested c
  mentions_has nested (Configured h ss) = mentions_in_has nested ss

  mentions_in_has : (nested : List (List ℕ)) (ss : Statements) → mentions_in_by (λ x. has x nested) ss ≡ mentions_in nested ss
  mentions_in_has nested NoStatements = refl
  mentions_in_has nested (AndDeclare c ss) =
      ap (λ is. is ++ mentions_in_by (λ x. has x ((own_name c).name ∷ nested)) ss) (mentions_has nested c)
      ∙ ap (λ is. mentions nested c ++ is) (mentions_in_has ((own_name c).name ∷ nested) ss)
  mentions_in_has nested (AndInstance i ss) = ap (λ is. cond (has i.component.name nested) is (i.component ∷ is)) (mentions_in_has nested ss)

pub at_the_top : (scopes : List (Scope (Unit {0}))) (c : Configuration) → scopes ≡ [] → mentions_by (in_scopes scopes) c ≡ mentions [] c
unfolding has
at_the_top scopes c e = ap (λ ss. mentions_by (in_scopes ss) c) e ∙ mentions_has [] c

-- ---- a mention

pub had : (m : Mentioned) (i : Identifier) (b : Bool) → Knows m.known (names_before (so_far m))
    → ((names : List (List ℕ)) → Knows m.known names → b ≡ has i.name names) → b ≡ true → Went m m (i ∷ [])
had m i b k known e = record { known = k; all = λ rest. none_new (so_far m) i rest (sym (known _ k) ∙ e) }

pub noted : (m n : Mentioned) (r : Bor Identifier) (b : Bool) → Knows m.known (names_before (so_far m))
    → ((names : List (List ℕ)) → Knows m.known names → b ≡ has r.now.name names) → b ≡ false
    → ((names : List (List ℕ)) → Knows m.known names → Knows n.known (r.now.name ∷ names)) → n.first.items ≡ m.first.items ++ r ∷ [] → Went m n (r.now ∷ [])
noted m n r b k known e more pushed =
    let longer : so_far n ≡ so_far m ++ r.now ∷ [] = ap now pushed ∙ map-append (λ (x : Bor Identifier). x.now) m.first.items (r ∷ []) in
    record {
      known = subst (Knows n.known) (sym (ap names_before longer ∙ newest_first (so_far m) r.now)) (more _ k);
      all = λ rest. one_new (so_far m) (so_far n) r.now rest (sym (known _ k) ∙ e) longer;
    }

-- ---- a statement

pub declares : (s₀ s₁ s₂ : List (Scope (Unit {0}))) (m n : Mentioned) (c : Configuration) (x : List ℕ) → s₁ ≡ s₀ → s₂ ≡ with_name x tt (innermost s₁) ∷ outer s₁ → x ≡ (own_name c).name
    → Went m n (mentions_by (in_scopes s₀) c) → (left : Statements) → Passed s₀ (AndDeclare c left) m s₂ left n
unfolding mentions_in_by
declares s₀ s₁ s₂ m n c x e d o went left =
    let own : s₂ ≡ with_name (own_name c).name tt (innermost s₀) ∷ outer s₀ = d ∙ ap (λ s. with_name x tt (innermost s) ∷ outer s) e ∙ ap (λ y. with_name y tt (innermost s₀) ∷ outer s₀) o in
    let behind : List Identifier = mentions_in_by (λ y. bytes_eq y (own_name c).name || in_scopes s₀ y) left in
    record {
      known = went.known;
      all = λ rest. ap (finished (so_far m)) (append_assoc (mentions_by (in_scopes s₀) c) behind rest)
          ∙ went.all (behind ++ rest)
          ∙ ap (λ t. finished (so_far n) (mentions_in_by t left ++ rest)) (sym (ap in_scopes own ∙ declared (own_name c).name s₀));
      around = ap outer own;
    }

pub of_module : (s : List (Scope (Unit {0}))) (m n : Mentioned) (i : Instantiation) → in_scopes s i.component.name ≡ false → Went m n (i.component ∷ [])
    → (left : Statements) → Passed s (AndInstance i left) m s left n
unfolding mentions_in_by
of_module s m n i e went left = record {
  known = went.known;
  all = λ rest. rw e (went.all (mentions_in_by (in_scopes s) left ++ rest));
  around = refl;
}

pub of_nested : (s : List (Scope (Unit {0}))) (m : Mentioned) (i : Instantiation) → in_scopes s i.component.name ≡ true → Knows m.known (names_before (so_far m))
    → (left : Statements) → Passed s (AndInstance i left) m s left m
unfolding mentions_in_by
of_nested s m i e k left = record { known = k; all = λ rest. rw e refl; around = refl }

-- ---- the statements of a configuration

pub stays : (s : List (Scope (Unit {0}))) (m n : Mentioned) (left : Statements) → n ≡ m → Knows m.known (names_before (so_far m)) → Passed s left m s left n
stays s m n left e k = subst (λ x. Passed s left m s left x) (sym e) (record { known = k; all = λ rest. refl; around = refl })

pub further : (s t u : List (Scope (Unit {0}))) (all some rest : Statements) (m n o : Mentioned) → Passed s all m t some n → Passed t some n u rest o → Passed s all m u rest o
further s t u all some rest m n o p q = record {
  known = q.known;
  all = λ more. p.all more ∙ q.all more;
  around = q.around ∙ p.around;
}

pub whole : (s t u : List (Scope (Unit {0}))) (m n : Mentioned) (h : Heading) (all rest : Statements) → Passed t all m u rest n → t ≡ nothing ∷ s → rest ≡ NoStatements
    → Went m n (mentions_by (in_scopes s) (Configured h all))
unfolding mentions_by mentions_in_by
whole s t u m n h all rest p e none = record {
  known = p.known;
  all = λ more. ap (λ x. finished (so_far m) (mentions_in_by (in_scopes x) all ++ more)) (sym e) ∙ p.all more ∙ ap (λ ss. finished (so_far n) (mentions_in_by (in_scopes u) ss ++ more)) none;
}
