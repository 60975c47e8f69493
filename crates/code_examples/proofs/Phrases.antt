-- Which phrases are right, decided.
use Rattle.std.proofs.Common.{◌≡◌, ℕ, zero, suc, ◌+◌, ◌-◌, ◌<◌, ◌≤◌, ◌⊎◌, inl, inr, List, [], ◌∷◌, length, get_or, take, Option, Some, None, All, refl, sym, ap, ap₂, subst, ◌∙◌, arith}
use Rattle.std.specs.Prelude.{slice_get}
use Rattle.std.specs.List.{AllAdjacentBelow}
use Rattle.std.proofs.lemmas.Option.{same_Some, none-some, slice_get-get_or}
use Rattle.code_forms.specs.declared.module_code.Arm.{Arm}
use Rattle.code_forms.specs.declared.module_code.Phrase.{Phrase}
use Rattle.code_forms.specs.declared.region.Region.{Region}
use Rattle.code_forms.specs.declared.region.Region.TheVariants.{Body, ArmOf}
use Rattle.code_forms.specs.Phrases.{first_start, regions_end, ArmsFollow, RegionsFollow, Stands, Nests, PhraseIsRight, PhrasesAreRight, EndsWithCode, PhrasesFill}
use Rattle.code_forms.specs.Regions.{region_at}
use Rattle.code_forms.specs.Routine.{Spot, IsStart, code_end}
use Rattle.code_forms.specs.Valid.{FirstBadPhrase, at_phrase, at_last}
use Rattle.code_examples.proofs.Decisions.{dec_by, dec_and, dec_or, dec_le, dec_lt, dec_eq, dec_all, dec_next, Search, all, first, searched}

-- an instruction begins at an offset
pub start_here : (x : Spot) (code : List Spot) (o : ℕ) → x.at ≡ o → IsStart (x ∷ code) o
start_here x code o e = record { number = 0; begins = record { spot = x; is = refl; at = e } }

pub start_there : (x : Spot) (code : List Spot) (o : ℕ) → IsStart code o → IsStart (x ∷ code) o
start_there x code o s = record { number = suc s.number; begins = record { spot = s.begins.spot; is = s.begins.is; at = s.begins.at } }

pub start_nowhere : (o : ℕ) → IsStart [] o → ⊥
start_nowhere o s = none-some s.begins.spot s.begins.is

pub start_elsewhere : (x : Spot) (code : List Spot) (o : ℕ) → (x.at ≡ o → ⊥) → (IsStart code o → ⊥) → (n : ℕ) (spot : Spot)
    → slice_get (x ∷ code) n ≡ Some spot → spot.at ≡ o → ⊥
start_elsewhere x code o h g zero spot is at = h (ap (λ (s : Spot). s.at) (same_Some x spot is) ∙ at)
start_elsewhere x code o h g (suc n) spot is at = g (record { number = n; begins = record { spot = spot; is = is; at = at } })

abbrev start_after : (x : Spot) (code : List Spot) (o : ℕ) → Dec (x.at ≡ o) → Dec (IsStart code o) → Dec (IsStart (x ∷ code) o)
start_after x code o (yes e) d = yes (start_here x code o e)
start_after x code o (no h) (yes s) = yes (start_there x code o s)
start_after x code o (no h) (no g) = no (λ s. start_elsewhere x code o h g s.number s.begins.spot s.begins.is s.begins.at)

abbrev pub dec_start : (code : List Spot) (o : ℕ) → Dec (IsStart code o)
dec_start [] o = no (start_nowhere o)
dec_start (x ∷ code) o = start_after x code o (dec_eq x.at o) (dec_start code o)

-- two regions are the same
pub not_body : (p a : ℕ) → Body ≡ ArmOf p a → ⊥
not_body p a e = cc

pub not_arm : (p a : ℕ) → ArmOf p a ≡ Body → ⊥
not_arm p a e = cc

pub same_arm : (p a q b : ℕ) → (p ≡ q) × (a ≡ b) → ArmOf p a ≡ ArmOf q b
same_arm p a q b h = ap₂ ArmOf h.0 h.1

pub arm_parts : (p a q b : ℕ) → ArmOf p a ≡ ArmOf q b → (p ≡ q) × (a ≡ b)
arm_parts p a q b e = (cc, cc)

abbrev pub dec_region : (x y : Region) → Dec (x ≡ y)
dec_region Body Body = yes refl
dec_region Body (ArmOf p a) = no (not_body p a)
dec_region (ArmOf p a) Body = no (not_arm p a)
dec_region (ArmOf p a) (ArmOf q b) = dec_by (same_arm p a q b) (arm_parts p a q b) (dec_and (dec_eq p q) (dec_eq a b))

pub none_region : (y : Region) → None ≡ Some y → ⊥
none_region y e = none-some y e

abbrev pub dec_some_region : (o : Option Region) (y : Region) → Dec (o ≡ Some y)
dec_some_region None y = no (none_region y)
dec_some_region (Some x) y = dec_by (ap Some) (same_Some x y) (dec_region x y)

-- how the regions of arms follow
pub arms_joined : (code : List Spot) (arms : List Arm)
    → All (λ a. IsStart code a.start × (a.start < a.end)) arms × AllAdjacentBelow (λ a b. a.end ≡ b.start) arms (length arms) → ArmsFollow code arms
arms_joined code arms h = record { each = h.0; joined = h.1 }

pub arms_apart : (code : List Spot) (arms : List Arm) → ArmsFollow code arms
    → All (λ a. IsStart code a.start × (a.start < a.end)) arms × AllAdjacentBelow (λ a b. a.end ≡ b.start) arms (length arms)
arms_apart code arms h = (h.each, h.joined)

abbrev dec_arms : (code : List Spot) (arms : List Arm) → Dec (ArmsFollow code arms)
dec_arms code arms = dec_by (arms_joined code arms) (arms_apart code arms) (dec_and
    (dec_all (λ a. IsStart code a.start × (a.start < a.end)) (λ a. dec_and (dec_start code a.start) (dec_lt a.start a.end)) arms)
    (dec_next (λ (a b : Arm). a.end ≡ b.start) (λ a b. dec_eq a.end b.start) arms))

abbrev dec_regions : (before : List Phrase) (start : ℕ) → Dec (RegionsFollow before start)
dec_regions [] start = dec_lt 0 start
dec_regions (p ∷ before) start = dec_eq (regions_end (p ∷ before)) start

-- a phrase stands rightly
abbrev Standing : List Spot → List Phrase → Phrase → Type 0
Standing code before p = ((IsStart code p.from × IsStart code p.to) × ((p.from < p.to) × All (λ (q : Phrase). q.from ≤ p.from) before))
    × (((region_at before p.from ≡ region_at before (p.to - 1)) × (p.to ≤ first_start p.arms))
    × (RegionsFollow before (first_start p.arms) × ArmsFollow code p.arms))

pub stands_by : (code : List Spot) (before : List Phrase) (p : Phrase) → Standing code before p → Stands code before p
stands_by code before p h = record {
  from = h.0.0.0;
  to = h.0.0.1;
  filled = h.0.1.0;
  listed = h.0.1.1;
  inside = h.1.0.0;
  earlier = h.1.0.1;
  regions = h.1.1.0;
  arms = h.1.1.1;
}

pub stands_parts : (code : List Spot) (before : List Phrase) (p : Phrase) → Stands code before p → Standing code before p
stands_parts code before p s = (((s.from, s.to), (s.filled, s.listed)), ((s.inside, s.earlier), (s.regions, s.arms)))

abbrev dec_stands : (code : List Spot) (before : List Phrase) (p : Phrase) → Dec (Stands code before p)
dec_stands code before p = dec_by (stands_by code before p) (stands_parts code before p) (dec_and
    (dec_and (dec_and (dec_start code p.from) (dec_start code p.to))
    (dec_and (dec_lt p.from p.to) (dec_all (λ (q : Phrase). q.from ≤ p.from) (λ q. dec_le q.from p.from) before)))
    (dec_and (dec_and (dec_region (region_at before p.from) (region_at before (p.to - 1))) (dec_le p.to (first_start p.arms)))
    (dec_and (dec_regions before (first_start p.arms)) (dec_arms code p.arms))))

abbrev dec_nests : (p q : Phrase) → Dec (Nests p q)
dec_nests p q = dec_or (dec_le q.to p.from) (dec_le p.to q.to)

pub right_by : (code : List Spot) (before : List Phrase) (p : Phrase) → Stands code before p × All (Nests p) before → PhraseIsRight code before p
right_by code before p h = record { stands = h.0; nests = h.1 }

pub right_parts : (code : List Spot) (before : List Phrase) (p : Phrase) → PhraseIsRight code before p → Stands code before p × All (Nests p) before
right_parts code before p h = (h.stands, h.nests)

abbrev dec_phrase : (code : List Spot) (before : List Phrase) (p : Phrase) → Dec (PhraseIsRight code before p)
dec_phrase code before p =
    dec_by (right_by code before p) (right_parts code before p) (dec_and (dec_stands code before p) (dec_all (Nests p) (dec_nests p) before))

-- the first phrase that is not right
abbrev RightAt : List Spot → List Phrase → ℕ → Type 0
RightAt code phrases n = (p : Phrase) → slice_get phrases n ≡ Some p → PhraseIsRight code (take n phrases) p

pub record WrongAt (code : List Spot) (phrases : List Phrase) (n : ℕ) : Type 0 where
  pub phrase : Phrase
  pub is : slice_get phrases n ≡ Some phrase
  pub wrong : PhraseIsRight code (take n phrases) phrase → ⊥

pub no_phrase : (code : List Spot) (phrases : List Phrase) (n : ℕ) → slice_get phrases n ≡ None → RightAt code phrases n
no_phrase code phrases n e p is = absurd (none-some p (sym e ∙ is))

pub that_phrase : (code : List Spot) (phrases : List Phrase) (n : ℕ) (p : Phrase) → slice_get phrases n ≡ Some p → PhraseIsRight code (take n phrases) p
    → RightAt code phrases n
that_phrase code phrases n p e h q is = subst (λ x. PhraseIsRight code (take n phrases) x) (same_Some p q (sym e ∙ is)) h

abbrev right_or_wrong : (code : List Spot) (phrases : List Phrase) (n : ℕ) (p : Phrase) → slice_get phrases n ≡ Some p
    → Dec (PhraseIsRight code (take n phrases) p) → RightAt code phrases n ⊎ WrongAt code phrases n
right_or_wrong code phrases n p e (yes h) = inl (that_phrase code phrases n p e h)
right_or_wrong code phrases n p e (no h) = inr (record { phrase = p; is = e; wrong = h })

abbrev phrase_by : (code : List Spot) (phrases : List Phrase) (n : ℕ) (o : Option Phrase) → slice_get phrases n ≡ o
    → RightAt code phrases n ⊎ WrongAt code phrases n
phrase_by code phrases n None e = inl (no_phrase code phrases n e)
phrase_by code phrases n (Some p) e = right_or_wrong code phrases n p e (dec_phrase code (take n phrases) p)

abbrev phrase_at : (code : List Spot) (phrases : List Phrase) (n : ℕ) → RightAt code phrases n ⊎ WrongAt code phrases n
phrase_at code phrases n = phrase_by code phrases n (slice_get phrases n) refl

abbrev dec_end : (code : List Spot) (phrases : List Phrase) → Dec (EndsWithCode code phrases)
dec_end code [] = yes tt
dec_end code (p ∷ phrases) = dec_eq (regions_end (p ∷ phrases)) (code_end code)

-- the phrases fill the code, or one of them is the first that does not
pub data Filling (code : List Spot) (phrases : List Phrase) : Type 0 where
  fills : PhrasesFill code phrases → Filling code phrases
  fails : (from : ℕ) → FirstBadPhrase code phrases from → Filling code phrases

pub all_right : (code : List Spot) (phrases : List Phrase) → ((n : ℕ) → n < length phrases → RightAt code phrases n)
    → PhrasesAreRight code phrases (length phrases)
all_right code phrases f n p l is = f n l p is

pub some_right : (code : List Spot) (phrases : List Phrase) (count : ℕ) → ((n : ℕ) → n < count → RightAt code phrases n) → PhrasesAreRight code phrases count
some_right code phrases count f n p l is = f n l p is

pub filled : (code : List Spot) (phrases : List Phrase) → ((n : ℕ) → n < length phrases → RightAt code phrases n) → EndsWithCode code phrases
    → PhrasesFill code phrases
filled code phrases f e = record { right = all_right code phrases f; filled = e }

pub last_fails : (code : List Spot) (p : Phrase) (phrases : List Phrase) → ((n : ℕ) → n < length (p ∷ phrases) → RightAt code (p ∷ phrases) n)
    → (EndsWithCode code (p ∷ phrases) → ⊥)
    → FirstBadPhrase code (p ∷ phrases) (get_or (p ∷ phrases) (length phrases) p).from
last_fails code p phrases f h =
    at_last (length phrases) (get_or (p ∷ phrases) (length phrases) p) (omega arith) (slice_get-get_or (p ∷ phrases) (length phrases) p (omega arith))
    (some_right code (p ∷ phrases) (length phrases + 1) (λ n l. f n (omega arith))) h

pub none_fails : (code : List Spot) → (EndsWithCode code [] → ⊥) → FirstBadPhrase code [] 0
none_fails code h = absurd (h tt)

abbrev fails_at_end : (code : List Spot) (phrases : List Phrase) → ((n : ℕ) → n < length phrases → RightAt code phrases n) → (EndsWithCode code phrases → ⊥)
    → Filling code phrases
fails_at_end code [] f h = fails 0 (none_fails code h)
fails_at_end code (p ∷ phrases) f h = fails (get_or (p ∷ phrases) (length phrases) p).from (last_fails code p phrases f h)

abbrev filling_end : (code : List Spot) (phrases : List Phrase) → ((n : ℕ) → n < length phrases → RightAt code phrases n) → Dec (EndsWithCode code phrases)
    → Filling code phrases
filling_end code phrases f (yes e) = fills (filled code phrases f e)
filling_end code phrases f (no h) = fails_at_end code phrases f h

pub fails_here : (code : List Spot) (phrases : List Phrase) (n : ℕ) → ((k : ℕ) → k < n → RightAt code phrases k) → (w : WrongAt code phrases n)
    → FirstBadPhrase code phrases w.phrase.from
fails_here code phrases n f w = at_phrase n w.phrase w.is (some_right code phrases n f) w.wrong

abbrev filling_by : (code : List Spot) (phrases : List Phrase) → Search (RightAt code phrases) (WrongAt code phrases) (length phrases) → Filling code phrases
filling_by code phrases (all f) = filling_end code phrases f (dec_end code phrases)
filling_by code phrases (first n l f w) = fails w.phrase.from (fails_here code phrases n f w)

abbrev pub filling : (code : List Spot) (phrases : List Phrase) → Filling code phrases
filling code phrases = filling_by code phrases (searched (RightAt code phrases) (WrongAt code phrases) (phrase_at code phrases) (length phrases))
