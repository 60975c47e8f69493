-- The names of a scope that are taken out one after the other, of which only heads keep their meaning.
use Rattle.std.proofs.Common.{◌≡◌, ℕ, Bool, true, false, List, [], ◌∷◌, map, Option, Some, None, refl, sym, ap, subst, ◌∙◌}
use Rattle.std.specs.Option.{option_map, option_or}
use Rattle.std.specs.Prelude.{cond}
use Rattle.std.specs.Str.{bytes_eq}
use Rattle.std.specs.Cmp.Lexicographic.{bytes_decides}
use Rattle.std.specs.declared.rc.Rc.{Rc}
use Rattle.std.specs.declared.alloc.Global.{Global}
use Rattle.check_scopes.specs.Counts.{without}
use Rattle.check_scopes.specs.Scopes.{Scope, nothing, over, with_name}
use Rattle.check_scopes.specs.Shows.{listed, valued}
use Rattle.check_scopes.specs.declared.index.Index.{Index}
use Rattle.check_rules.specs.Meanings as m
use Rattle.check_rules.specs.Programs.{behind_top, heads_alone, hidden_unless_head}
use Rattle.check_state.proofs.ScopeLaws.{with_name_as}
use Rattle.check_state.specs.Views.{meaning, seen_as}
use Rattle.check_state.specs.declared.meaning.Meaning.{Meaning}

over-none : {T : Type 0} (s : Scope T) → over s nothing ≡ s
over-none s = λ i x. or_none (s x) i
  where
    or_none : {X : Type 0} (o : Option X) → option_or o None ≡ o
    or_none None = refl
    or_none (Some x) = refl

of_none : {T : Type 0} (b : Bool) (o : Option (Rc T Global)) → option_map (λ (r : Rc T Global). r.value) (cond b None o) ≡ cond b None (option_map (λ (r : Rc T Global). r.value) o)
of_none true o = refl
of_none false o = refl

valued-without : {T : Type 0} (i j : Index (Rc T Global)) (x : List ℕ) → listed j ≡ without x (listed i) → valued j ≡ without x (valued i)
unfolding valued
valued-without i j x h = ap (λ s y. option_map (λ r. r.value) (s y)) h ∙ (λ k y. of_none (bytes_eq x y) (listed i y) k)

valued-at : {T : Type 0} (i : Index (Rc T Global)) (x : List ℕ) (r : Rc T Global) → listed i x ≡ Some r → valued i x ≡ Some r.value
unfolding valued
valued-at i x r h = ap (option_map (λ r. r.value)) h

valued-none : {T : Type 0} (i : Index (Rc T Global)) → listed i ≡ nothing → valued i ≡ nothing
unfolding valued
valued-none i h = ap (λ s x. option_map (λ r. r.value) (s x)) h

-- what names mean that are still to come, over those that are there by now
abbrev pub still : Scope Meaning → Scope m.Meaning → Scope m.Meaning
still rest alone = over (heads_alone (seen_as meaning rest)) alone

pub still_begin : (rest : Scope Meaning) → still rest nothing ≡ heads_alone (seen_as meaning rest)
still_begin rest = over-none (heads_alone (seen_as meaning rest))

pub still_end : (rest : Index (Rc Meaning Global)) (alone : Scope m.Meaning) → listed rest ≡ nothing → still (valued rest) alone ≡ alone
still_end rest alone h = ap (λ s. still s alone) (valued-none rest h)

at_name : (b : Bool) (o : Option Meaning) (n : m.Meaning) (p : Option m.Meaning) → (b ≡ true → Some n ≡ hidden_unless_head (option_map meaning o))
    → option_or (hidden_unless_head (option_map meaning (cond b None o))) (cond b (Some n) p) ≡ option_or (hidden_unless_head (option_map meaning o)) p
at_name true o n p h = ap (λ q. option_or q p) (h refl)
at_name false o n p h = refl

taken : (rest : Scope Meaning) (alone : Scope m.Meaning) (x : List ℕ) (k : Meaning) (n : m.Meaning) → rest x ≡ Some k → Some n ≡ hidden_unless_head (Some (meaning k))
    → still (without x rest) (with_name x n alone) ≡ still rest alone
taken rest alone x k n is_it hidden = λ i y. at_name (bytes_eq x y) (rest y) n (alone y)
    (λ same. subst (λ z. Some n ≡ hidden_unless_head (option_map meaning (rest z))) ((bytes_decides x y).0 same)
    (hidden ∙ ap (λ o. hidden_unless_head (option_map meaning o)) (sym is_it))) i

pub still_next : (old new : Index (Rc Meaning Global)) (before after : Scope Meaning) (x : List ℕ) (r : Rc Meaning Global) (k : Meaning)
    → listed old x ≡ Some r → listed new ≡ without x (listed old) → Some (meaning k) ≡ hidden_unless_head (Some (meaning r.value)) → after ≡ with_name x k before
    → still (valued new) (seen_as meaning after) ≡ still (valued old) (seen_as meaning before)
still_next old new before after x r k here left hidden put =
    ap (λ s. still s (seen_as meaning after)) (valued-without old new x left)
    ∙ ap (still (without x (valued old))) (ap (seen_as meaning) put ∙ with_name_as meaning x k before)
    ∙ taken (valued old) (seen_as meaning before) x r.value (meaning k) (valued-at old x r here) hidden

-- scopes in one another
abbrev seen_all : List (Scope Meaning) → List (Scope m.Meaning)
seen_all ss = map (seen_as meaning) ss

pub none_open : (old new : List (Scope Meaning)) → old ≡ [] → new ≡ [] → seen_all new ≡ behind_top (seen_all old)
none_open old new h e = ap seen_all e ∙ sym (ap (λ ss. behind_top (seen_all ss)) h)

pub one_open : (old left new : List (Scope Meaning)) (own : Scope Meaning) → old ≡ own ∷ left → left ≡ [] → new ≡ own ∷ [] → seen_all new ≡ behind_top (seen_all old)
one_open old left new own h e n = ap seen_all n ∙ sym (ap (λ ss. behind_top (seen_all ss)) (h ∙ ap (λ ss. own ∷ ss) e))

pub two_open : (old left rest new : List (Scope Meaning)) (own further heads : Scope Meaning) → old ≡ own ∷ left → left ≡ further ∷ rest
    → seen_as meaning heads ≡ heads_alone (seen_as meaning own) → new ≡ own ∷ heads ∷ rest → seen_all new ≡ behind_top (seen_all old)
two_open old left rest new own further heads h e alone n =
    ap seen_all n ∙ ap (λ s. seen_as meaning own ∷ s ∷ seen_all rest) alone
    ∙ sym (ap (λ ss. behind_top (seen_all ss)) (h ∙ ap (λ ss. own ∷ ss) e))
