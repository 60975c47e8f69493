-- Which words are those of a run.
use Rattle.std.proofs.Common.{◌≡◌, ℕ, zero, suc, ◌<◌, ◌≤◌, ◌^◌, true, List, [], ◌∷◌, ◌++◌, length, get_or, Some, codes, decimal, slice_get, refl, sym, ◌∙◌, ap, subst, arith}
use Rattle.std.proofs.lemmas.List.{length-append}
use Rattle.config_rules.specs.Components.{is_file_base}
use Rattle.command_passes.specs.command_rules.specs.Forms.{Form, Run, HasForm, HasNoForm, compile, define, bind, run, go, list, upgrade, exercise, plan, survey}
use Rattle.command_lines.specs.Words.{IsBaseAt, behind_first, before_last, between}
use Rattle.command_lines.proofs.Letters.{first_letter, other}
use Rattle.command_lines.proofs.Planning.{some_is}

-- each word between the first and the last is a base
abbrev pub AllBases : List (List ℕ) → Type 0
AllBases words = (at : ℕ) → 1 ≤ at → suc at < length words → IsBaseAt words at

-- the last of words
last_word : (words : List (List ℕ)) (last : List ℕ) (k : ℕ) → length words ≡ suc k → slice_get words k ≡ Some last → words ≡ before_last words ++ last ∷ []
unfolding before_last
last_word [] last k e is = absurd (omega (arith, e))
last_word (a ∷ []) last zero e is = ap (λ w. w ∷ []) (some_is a last is)
last_word (a ∷ []) last (suc k) e is = absurd (omega (arith, e))
last_word (a ∷ b ∷ words) last zero e is = absurd (omega (arith, e))
last_word (a ∷ b ∷ words) last (suc k) e is = ap (λ l. a ∷ l) (last_word (b ∷ words) last k (omega (arith, e)) is)

before_length : (words : List (List ℕ)) (k : ℕ) → length words ≡ suc k → length (before_last words) ≡ k
unfolding before_last
before_length [] k e = absurd (omega (arith, e))
before_length (a ∷ []) k e = omega (arith, e)
before_length (a ∷ b ∷ words) zero e = absurd (omega (arith, e))
before_length (a ∷ b ∷ words) (suc k) e = ap suc (before_length (b ∷ words) k (omega (arith, e)))

-- the words before the last are those of their places
before_got : (words : List (List ℕ)) (j k : ℕ) (d : List ℕ) → length words ≡ suc k → j < k → slice_get words j ≡ Some (get_or (before_last words) j d)
unfolding before_last
before_got [] j k d e less = absurd (omega (arith, e))
before_got (a ∷ []) j zero d e less = absurd (omega (arith, less))
before_got (a ∷ []) j (suc k) d e less = absurd (omega (arith, e))
before_got (a ∷ b ∷ words) j zero d e less = absurd (omega (arith, less))
before_got (a ∷ b ∷ words) zero (suc k) d e less = refl
before_got (a ∷ b ∷ words) (suc j) (suc k) d e less = before_got (b ∷ words) j k d (omega (arith, e)) (omega (arith, less))

bases_are : (verb : List ℕ) (words : List (List ℕ)) (k : ℕ) → length words ≡ suc k → AllBases (verb ∷ words) → (j : ℕ) (d : List ℕ)
    → j < length (before_last words) → is_file_base (get_or (before_last words) j d) ≡ true
bases_are verb words k e all j d less =
    let inside : j < k = omega (arith, less, before_length words k e) in
    let f = all (suc j) (omega arith) (omega (arith, inside, e)) in
    ap is_file_base (some_is (get_or (before_last words) j d) f.base (sym (before_got words j k d e inside) ∙ f.is)) ∙ f.fits

has_run_of : (words : List (List ℕ)) (k n : ℕ) → length words ≡ suc k → 1 ≤ k → k ≤ 16 → AllBases (codes "run" ∷ words) → slice_get words k ≡ Some (decimal n)
    → n < 2 ^ 64 → HasForm (codes "run" ∷ words) (Run (before_last words) n)
has_run_of words k n e some few all is bounded =
    let many = before_length words k e in
    subst (λ w. HasForm (codes "run" ∷ w) (Run (before_last words) n)) (sym (last_word words (decimal n) k e is))
    (run (before_last words) n (omega (arith, many, some)) (omega (arith, many, few)) (bases_are (codes "run") words k e all) bounded)

pub has_run : (words : List (List ℕ)) (n last : ℕ) → words ≡ codes "run" ∷ behind_first words → 3 ≤ length words → length words ≤ 18 → AllBases words
    → suc last ≡ length words → slice_get words last ≡ Some (decimal n) → n < 2 ^ 64 → HasForm words (Run (between words) n)
has_run [] n last e some few all at is bounded = absurd (omega (arith, some))
has_run (w ∷ words) n zero e some few all at is bounded = absurd (omega (arith, some, at))
has_run (w ∷ words) n (suc k) e some few all at is bounded =
    let verb : w ≡ codes "run" = cc in
    subst (λ v. HasForm (v ∷ words) (Run (before_last words) n)) (sym verb)
    (has_run_of words k n (omega (arith, at)) (omega (arith, some, at)) (omega (arith, few, at)) (subst (λ v. AllBases (v ∷ words)) verb all) is bounded)

-- words of a run are so
pub record RunsSo (words : List (List ℕ)) : Type 0 where
  pub some : 3 ≤ length words
  pub few : length words ≤ 18
  pub all : AllBases words
  pub turns : ℕ
  pub bounded : turns < 2 ^ 64
  pub is : (last : ℕ) → suc last ≡ length words → slice_get words last ≡ Some (decimal turns)

front_got : (bases : List (List ℕ)) (last : List ℕ) (k : ℕ) (d : List ℕ) → k < length bases → slice_get (bases ++ last ∷ []) k ≡ Some (get_or bases k d)
front_got [] last k d less = absurd (omega (arith, less))
front_got (b ∷ bases) last zero d less = refl
front_got (b ∷ bases) last (suc k) d less = front_got bases last k d (omega (arith, less))

last_got : (bases : List (List ℕ)) (last : List ℕ) (k : ℕ) → k ≡ length bases → slice_get (bases ++ last ∷ []) k ≡ Some last
last_got [] last zero e = refl
last_got [] last (suc k) e = absurd (omega (arith, e))
last_got (b ∷ bases) last zero e = absurd (omega (arith, e))
last_got (b ∷ bases) last (suc k) e = last_got bases last k (omega (arith, e))

all_bases : (verb : List ℕ) (bases : List (List ℕ)) (last : List ℕ) → ((k : ℕ) (d : List ℕ) → k < length bases → is_file_base (get_or bases k d) ≡ true)
    → AllBases (verb ∷ bases ++ last ∷ [])
all_bases verb bases last named zero some inside = absurd (omega (arith, some))
all_bases verb bases last named (suc k) some inside =
    let less : k < length bases = omega (arith, inside, length-append bases (last ∷ [])) in
    record { base = get_or bases k []; is = front_got bases last k [] less; fits = named k [] less }

its_last : (verb : List ℕ) (bases : List (List ℕ)) (last : List ℕ) (k : ℕ) → suc k ≡ length (verb ∷ bases ++ last ∷ []) → slice_get (verb ∷ bases ++ last ∷ []) k ≡ Some last
its_last verb bases last zero e = absurd (omega (arith, e, length-append bases (last ∷ [])))
its_last verb bases last (suc k) e = last_got bases last k (omega (arith, e, length-append bases (last ∷ [])))

-- the other forms begin with another letter

runs_so : (words : List (List ℕ)) (form : Form) → words ≡ codes "run" ∷ behind_first words → HasForm words form → RunsSo words
unfolding first_letter
runs_so words form e (compile base is) = absurd (other 114 refl 99 refl (ap first_letter e))
runs_so words form e (define base word stamp is told) = absurd (other 114 refl 99 refl (ap first_letter e))
runs_so words form e (bind base is) = absurd (other 114 refl 98 refl (ap first_letter e))
runs_so words form e (run bases turns some most are few) = record {
  some = omega (arith, some, length-append bases (decimal turns ∷ []));
  few = omega (arith, most, length-append bases (decimal turns ∷ []));
  all = all_bases (codes "run") bases (decimal turns) are;
  turns = turns;
  bounded = few;
  is = its_last (codes "run") bases (decimal turns);
}
runs_so words form e (go source base turns is few) = absurd (other 114 refl 103 refl (ap first_letter e))
runs_so words form e (list kind base is) = absurd (other 114 refl 108 refl (ap first_letter e))
runs_so words form e (upgrade kind base is) = absurd (other 114 refl 117 refl (ap first_letter e))
runs_so words form e (exercise links turns some most few) = absurd (other 114 refl 101 refl (ap first_letter e))
runs_so words form e (survey base is) = absurd (other 114 refl 115 refl (ap first_letter e))
runs_so words form e (plan bases some few named differ) = absurd (other 114 refl 112 refl (ap first_letter e))

pub no_run : (words : List (List ℕ)) → words ≡ codes "run" ∷ behind_first words → (RunsSo words → ⊥) → HasNoForm words
no_run words e not form has = not (runs_so words form e has)
