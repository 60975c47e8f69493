-- The same signals may escape images that differ in depths alone.
use Rattle.std.proofs.Common.{◌≡◌, ℕ, true, not, List, Option, Some, None, refl, sym, ◌∙◌, ap, subst}
use Rattle.std.specs.Prelude.{option_map, slice_get, position, Contains}
use Rattle.std.proofs.lemmas.Option.{same_Some}
use Rattle.code_forms.specs.Routine.{Routine, routine, goes_on, is_error_signal, is_error_link}
use Rattle.code_forms.specs.Same.{bare_procedure}
use Rattle.code_forms.specs.declared.instruction.Instruction.{Instruction}
use Rattle.code_forms.specs.declared.instruction.Instruction.TheVariants.{Raise, RaiseLink, ArmEnd, Resume}
use Rattle.code_forms.specs.declared.module_code.Arm.{Arm}
use Rattle.code_forms.specs.declared.module_code.CodeLink.{CodeLink}
use Rattle.code_forms.specs.declared.module_code.CodeProcedure.{CodeProcedure}
use Rattle.code_forms.specs.declared.module_code.CodeSignal.{CodeSignal}
use Rattle.code_forms.specs.declared.module_code.ModuleCode.{ModuleCode}
use Rattle.code_forms.specs.declared.module_code.Phrase.{Phrase}
use Rattle.object_files.specs.declared.image.Image.{Image}
use Rattle.object_rules.specs.Exact.{IsSameImage}
use Rattle.signaller.specs.Search.{search_at, search_from, beyond, fits_signal}
use Rattle.signaller.specs.declared.search.Links.{Links}
use Rattle.signaller.specs.declared.signal_id.SignalId.{SignalId}
use Rattle.signaller.specs.declared.signal_id.SignalId.TheVariants.{Own, BoundsFault, ZeroDivisor, NoInput, Unnamed}
use Rattle.machine_rules.specs.LookUps.{code_of, procedure_of, bound_to, links_of, host_of, signal_of, instruction_at}
use Rattle.machine_rules.specs.Signals.{takes_in, takes_back}
use Rattle.survey_rules.specs.Reached.{Reached, Stands, StandsIn}
use Rattle.survey_rules.specs.Escapes.{Position, MayRaise, Calls, Catches, IsCode, Comes, raised, called, passed, Escapes, escapes}
use Rattle.depth_laws.proofs.Views.{View, view, fetched, code_alike, signal_alike, bound_alike, links_alike, host_alike, procedure_alike}

-- ---- what a survey finds in both

record AreLike (a b : Image) : Type 0 where
  pub codes : (j : ℕ) → option_map view (code_of a j) ≡ option_map view (code_of b j)
  pub procedures : (j n : ℕ) → option_map bare_procedure (procedure_of a j n) ≡ option_map bare_procedure (procedure_of b j n)
  pub signals : (j k : ℕ) → signal_of a j k ≡ signal_of b j k
  pub bound : (j k : ℕ) → bound_to a j k ≡ bound_to b j k
  pub links : (j : ℕ) → links_of a j ≡ links_of b j
  pub hosts : (n : ℕ) → host_of a n ≡ host_of b n
  pub control : a.control ≡ b.control

like : (a b : Image) → IsSameImage a b → AreLike a b
like a b same = record {
  codes = code_alike a b same;
  procedures = procedure_alike a b same;
  signals = signal_alike a b same;
  bound = bound_alike a b same;
  links = links_alike a b same;
  hosts = host_alike a b same;
  control = same.control;
}

back : (a b : Image) → AreLike a b → AreLike b a
back a b l = record {
  codes = λ j. sym (l.codes j);
  procedures = λ j n. sym (l.procedures j n);
  signals = λ j k. sym (l.signals j k);
  bound = λ j k. sym (l.bound j k);
  links = λ j. sym (l.links j);
  hosts = λ n. sym (l.hosts n);
  control = sym l.control;
}

-- the code of a procedure in both
record ArePaired (m k : ModuleCode) (p q : CodeProcedure) : Type 0 where
  pub signals : m.signals ≡ k.signals
  pub links : m.links ≡ k.links
  pub code : (at : ℕ) → instruction_at p.code at ≡ instruction_at q.code at
  pub phrases : p.phrases ≡ q.phrases

turned : (m k : ModuleCode) (p q : CodeProcedure) → ArePaired m k p q → ArePaired k m q p
turned m k p q h = record { signals = sym h.signals; links = sym h.links; code = λ at. sym (h.code at); phrases = sym h.phrases }

record HasPair (b : Image) (j n : ℕ) (m : ModuleCode) (p : CodeProcedure) : Type 0 where
  pub other : ModuleCode
  pub procedure : CodeProcedure
  pub is_code : IsCode b j n other procedure
  pub paired : ArePaired m other p procedure

-- what is seen alike of something that is there is there
seen : {A B : Type 0} (v : A → B) (x : A) (o : Option A) → Some (v x) ≡ option_map v o → (y : A) × (o ≡ Some y) × (v x ≡ v y)
seen v x None e = absurd cc
seen v x (Some y) e = (y, refl, same_Some (v x) (v y) e)

pair_of : (a b : Image) → AreLike a b → (j n : ℕ) (m : ModuleCode) (p : CodeProcedure) → IsCode a j n m p → HasPair b j n m p
pair_of a b l j n m p is =
    let code = seen view m (code_of b j) (sym (ap (option_map view) is.is_module) ∙ l.codes j) in
    let its = seen bare_procedure p (procedure_of b j n) (sym (ap (option_map bare_procedure) is.is_procedure) ∙ l.procedures j n) in
    record {
      other = code.0;
      procedure = its.0;
      is_code = record { is_module = code.1; is_procedure = its.1 };
      paired = record {
        signals = ap (λ (v : View). v.signals) code.2;
        links = ap (λ (v : View). v.links) code.2;
        code = λ at. sym (fetched p.code at) ∙ ap (λ (q : CodeProcedure). instruction_at q.code at) its.2 ∙ fetched its.0.code at;
        phrases = ap (λ (q : CodeProcedure). q.phrases) its.2;
      };
    }

-- ---- what is reached

goes_alike : (r t : Routine) → r.signals ≡ t.signals → r.links ≡ t.links → (i : Instruction) → goes_on r i ≡ goes_on t i
goes_alike r t s l (Raise k) = ap (λ (z : List CodeSignal). not (is_error_signal (slice_get z k))) s
goes_alike r t s l (RaiseLink k) = ap (λ (z : List CodeLink). not (is_error_link (slice_get z k))) l
goes_alike r t s l _ = refl

module _ (m k : ModuleCode) (p q : CodeProcedure) (h : ArePaired m k p q) where
  reached_alike : (at : ℕ) → Reached m p at → Reached k q at
  reached_alike _ Reached.first = Reached.first
  reached_alike _ (Reached.onward at i r is on) =
      Reached.onward at i (reached_alike at r) (sym (h.code at) ∙ is) (sym (goes_alike (routine m p) (routine k q) h.signals h.links i) ∙ on)
  reached_alike _ (Reached.jumped at target i r is leads) = Reached.jumped at target i (reached_alike at r) (sym (h.code at) ∙ is) leads
  reached_alike _ (Reached.in_arm at n c i phrase arm r there is inside arm_is) =
      Reached.in_arm at n c i phrase arm (reached_alike at r) (sym (h.code at) ∙ there)
      (ap (λ (z : List Phrase). slice_get z n) (sym h.phrases) ∙ is) inside arm_is

  stands_alike : (at : ℕ) (i : Instruction) → Stands m p at i → Stands k q at i
  stands_alike at i s = record { reached = reached_alike at s.reached; is = sym (h.code at) ∙ s.is }

  stands_in_alike : (arm : Arm) (i : Instruction) → StandsIn m p arm i → StandsIn k q arm i
  stands_in_alike arm i s = record { at = s.at; stands = stands_alike s.at i s.stands; behind = s.behind; before = s.before }

-- ---- what is raised, called and caught

module _ (a b : Image) (l : AreLike a b) where
  raises_alike : (j : ℕ) (i : Instruction) (s : SignalId) → MayRaise a j i s → MayRaise b j i s
  raises_alike j _ _ (MayRaise.own k) = MayRaise.own k
  raises_alike j _ _ (MayRaise.linked k other n is) = MayRaise.linked k other n (sym (l.bound j k) ∙ is)
  raises_alike j _ _ (MayRaise.wanted k w is) = MayRaise.wanted k w (sym (l.bound j k) ∙ is)
  raises_alike j _ _ (MayRaise.hosts fault s is) = MayRaise.hosts fault s is
  raises_alike j _ _ (MayRaise.bounds i may) = MayRaise.bounds i may
  raises_alike j _ _ (MayRaise.divides i may) = MayRaise.divides i may
  raises_alike j _ _ (MayRaise.reads k w is host) = MayRaise.reads k w (sym (l.bound j k) ∙ is) (sym (l.hosts w) ∙ host)

  calls_alike : (j : ℕ) (i : Instruction) (other n : ℕ) → Calls a j i other n → Calls b j i other n
  calls_alike j _ _ _ (Calls.own q) = Calls.own q
  calls_alike j _ _ _ (Calls.linked k other q is) = Calls.linked k other q (sym (l.bound j k) ∙ is)

  takes_alike : (s : SignalId) (n : ℕ) → takes_back a s n ≡ takes_back b s n
  unfolding takes_back
  takes_alike (Own j k) n = ap (λ o. takes_in o n) (l.signals j k)
  takes_alike BoundsFault n = refl
  takes_alike ZeroDivisor n = refl
  takes_alike NoInput n = refl
  takes_alike Unnamed n = refl

  -- an arm stops a signal where it does so in the other
  catches_alike : (j n : ℕ) (m k : ModuleCode) (p q : CodeProcedure) (s : SignalId) → ArePaired m k p q → Catches b j k q s n → Catches a j m p s n
  catches_alike j n m k p q s h c = record {
    phrase = c.phrase;
    is_phrase = ap (λ (z : List Phrase). slice_get z n) h.phrases ∙ c.is_phrase;
    k = c.k;
    first = ap (λ (z : Links). position (fits_signal z s) c.phrase.arms) (l.links j) ∙ c.first;
    arm = c.arm;
    is_arm = c.is_arm;
    stops = record {
      no_end = λ x. c.stops.no_end (stands_in_alike m k p q h c.arm ArmEnd x);
      resumes = λ words x. takes_alike s words ∙ c.stops.resumes words (stands_in_alike m k p q h c.arm (Resume words) x);
    };
  }

  -- ---- what comes

  comes_alike : (s : SignalId) (j n : ℕ) (at : Position) → Comes a s j n at → Comes b s j n at
  comes_alike s _ _ _ (raised j n at m p i is stands may) =
      let h = pair_of a b l j n m p is in
      subst (λ x. Comes b s j n x) (ap (λ (z : List Phrase). (search_at true z at).phrase) (sym h.paired.phrases))
      (raised j n at h.other h.procedure i h.is_code (stands_alike m h.other p h.procedure h.paired at i stands) (raises_alike j i s may))
  comes_alike s _ _ _ (called j n at other procedure q m p i is stands calls run comes) =
      let h = pair_of a b l j n m p is in
      subst (λ x. Comes b s j n x) (ap (λ (z : List Phrase). (search_at true z at).phrase) (sym h.paired.phrases))
      (called j n at other procedure q h.other h.procedure i h.is_code (stands_alike m h.other p h.procedure h.paired at i stands)
      (calls_alike j i other procedure calls) run (comes_alike s other q None comes))
  comes_alike s _ _ _ (passed j n k m p is comes past) =
      let h = pair_of a b l j n m p is in
      subst (λ x. Comes b s j n x) (ap (λ (z : List Phrase). (search_from (beyond true z k)).phrase) (sym h.paired.phrases))
      (passed j n k h.other h.procedure h.is_code (comes_alike s j n (Some k) comes)
      (λ c. past (catches_alike j k m h.other p h.procedure s h.paired c)))

  escapes_alike : (s : SignalId) → Escapes a s → Escapes b s
  escapes_alike s (escapes j is comes) = escapes j (subst (λ c. Contains c j) l.control is) (comes_alike s j 0 None comes)

pub same_escapes : (a b : Image) → IsSameImage a b → (s : SignalId) → Escapes a s → Escapes b s
same_escapes a b same s it = escapes_alike a b (like a b same) s it

pub same_escapes_back : (a b : Image) → IsSameImage a b → (s : SignalId) → Escapes b s → Escapes a s
same_escapes_back a b same s it = escapes_alike b a (back a b (like a b same)) s it
