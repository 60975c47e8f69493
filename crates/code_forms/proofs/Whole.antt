-- Procedures whose depths alone differ, and the code of a whole module.
use Rattle.std.proofs.Common.{◌≡◌, ℕ, zero, suc, ◌+◌, ◌<◌, ◌≤◌, ⊎_elim, List, [], ◌∷◌, length, get_or, map, Option, Some, None, refl, sym, ap, subst, ◌∙◌, arith}
use Rattle.std.specs.Prelude.{slice_get, slice_set, All}
use Rattle.std.specs.Option.{option_map}
use Rattle.std.proofs.Props.{props}
use Rattle.std.proofs.lemmas.Bool.{cases_lt, cases_eq}
use Rattle.std.proofs.lemmas.List.{length-map, get_or-set_other, get_or-set_same}
use Rattle.std.proofs.lemmas.Option.{slice_get-get_or, slice_get-map, slice_get_within, get_or_from_slice_get, same_Some, none-some}
use Rattle.code_forms.specs.declared.module_code.CodeEntry.{CodeEntry}
use Rattle.code_forms.specs.declared.module_code.CodeLink.{CodeLink}
use Rattle.code_forms.specs.declared.module_code.CodeProcedure.{CodeProcedure}
use Rattle.code_forms.specs.declared.module_code.CodeSignal.{CodeSignal}
use Rattle.code_forms.specs.declared.module_code.Phrase.{Phrase}
use Rattle.code_forms.specs.declared.around.Moved.{Moved}
use Rattle.code_forms.specs.declared.bad_code.CodeFault.{CodeFault}
use Rattle.code_forms.specs.Depths.{DepthsAreSettled}
use Rattle.code_forms.specs.Ranges.{AreFew, PhraseInRange, ProcedureInRange, CanBeRead, IsBody, KeepsRanges}
use Rattle.code_forms.specs.Routine.{Routine, Spot, spot_of, spots, words_of, routine_with}
use Rattle.code_forms.specs.Same.{bare_entry, with_code, bare_procedure, bare}
use Rattle.code_forms.specs.Valid.{RoutineIsValid, FirstFault, AreValid, HaveDepths, IsFirstFaultOf}
use Rattle.code_forms.proofs.Passing.{in_order_same}

-- the instructions of bare code
abbrev pub spots_of_bare : List CodeEntry → List Spot
spots_of_bare code = map spot_of (map bare_entry code)

bare_spots : (code : List CodeEntry) → spots code ≡ spots_of_bare code
bare_spots [] = refl
bare_spots (e ∷ code) = ap (λ t. spot_of e ∷ t) (bare_spots code)

bare_of_spots : (code : List CodeEntry) → map bare_entry code ≡ map (λ (s : Spot). record { at = s.at; depth = 0; instruction = s.instruction }) (spots code)
bare_of_spots [] = refl
bare_of_spots (e ∷ code) = ap (λ t. bare_entry e ∷ t) (bare_of_spots code)

pub same_bare_code : (a b : List CodeEntry) → spots a ≡ spots b → map bare_entry a ≡ map bare_entry b
same_bare_code a b h = bare_of_spots a ∙ (ap (map (λ (s : Spot). record { at = s.at; depth = 0; instruction = s.instruction })) h ∙ sym (bare_of_spots b))

pub same_spots_of : (p q : CodeProcedure) → bare_procedure p ≡ bare_procedure q → spots p.code ≡ spots q.code
same_spots_of p q h = bare_spots p.code ∙ (ap (λ (x : CodeProcedure). map spot_of x.code) h ∙ sym (bare_spots q.code))

words_bare : (ps : List CodeProcedure) → map words_of ps ≡ map words_of (bare ps)
words_bare [] = refl
words_bare (p ∷ ps) = ap (λ t. words_of p ∷ t) (words_bare ps)

pub same_words : (ps qs : List CodeProcedure) → bare ps ≡ bare qs → map words_of ps ≡ map words_of qs
same_words ps qs h = words_bare ps ∙ (ap (map words_of) h ∙ sym (words_bare qs))

-- a routine by its parts
abbrev pub made : ℕ → ℕ → List CodeSignal → List CodeLink → List Moved → CodeProcedure → List Spot → Routine
made globals strings signals links words p code = record {
  globals = globals;
  strings = strings;
  signals = signals;
  links = links;
  procedures = words;
  frame = p.frame;
  room = p.depth;
  code = code;
  phrases = p.phrases;
}

-- depths do not matter to it
pub same_routine : (globals strings : ℕ) (signals : List CodeSignal) (links : List CodeLink) (ps qs : List CodeProcedure) (p q : CodeProcedure) → bare ps ≡ bare qs → bare_procedure p ≡ bare_procedure q
    → routine_with globals strings signals links ps p ≡ routine_with globals strings signals links qs q
same_routine globals strings signals links ps qs p q h e =
    ap (λ w. made globals strings signals links w p (spots p.code)) (same_words ps qs h)
    ∙ (ap (λ s. made globals strings signals links (map words_of qs) p s) (same_spots_of p q e)
    ∙ ap (λ (x : CodeProcedure). made globals strings signals links (map words_of qs) x (spots q.code)) e)

pub same_count : (ps qs : List CodeProcedure) → bare ps ≡ bare qs → length ps ≡ length qs
same_count ps qs h = sym (length-map ps bare_procedure) ∙ (ap length h ∙ length-map qs bare_procedure)

bare_get : (ps : List CodeProcedure) (k : ℕ) (p : CodeProcedure) → slice_get ps k ≡ Some p → slice_get (bare ps) k ≡ Some (bare_procedure p)
bare_get ps k p h = slice_get-map bare_procedure ps k ∙ ap (option_map bare_procedure) h

-- the procedures of one number
pub same_procedure : (ps qs : List CodeProcedure) (k : ℕ) (p q : CodeProcedure) → bare ps ≡ bare qs → slice_get ps k ≡ Some p → slice_get qs k ≡ Some q → bare_procedure p ≡ bare_procedure q
same_procedure ps qs k p q h a b = same_Some _ _ (sym (bare_get ps k p a) ∙ (ap (λ l. slice_get l k) h ∙ bare_get qs k q b))

pub same_at_number : (ps qs : List CodeProcedure) (k : ℕ) (d e : CodeProcedure) → bare ps ≡ bare qs → k < length ps → bare_procedure (get_or ps k d) ≡ bare_procedure (get_or qs k e)
same_at_number ps qs k d e h l =
    let n = same_count ps qs h in
    same_procedure ps qs k _ _ h (slice_get-get_or ps k d l) (slice_get-get_or qs k e (omega (arith, n, l)))

-- ranges say nothing of depths
pub same_range : (signals : List CodeSignal) (links : List CodeLink) (p q : CodeProcedure) → bare_procedure p ≡ bare_procedure q → ProcedureInRange signals links p → ProcedureInRange signals links q
same_range signals links p q e r =
    let f : p.frame ≡ q.frame = ap (λ (x : CodeProcedure). x.frame) e in
    let a : p.args ≡ q.args = ap (λ (x : CodeProcedure). x.args) e in
    let s : p.results ≡ q.results = ap (λ (x : CodeProcedure). x.results) e in
    let d : p.depth ≡ q.depth = ap (λ (x : CodeProcedure). x.depth) e in
    record {
      frame = (let x = r.frame in omega (arith, x, f));
      words = (let x = r.words in omega (arith, x, a, s, f));
      depth = (let x = r.depth in omega (arith, x, d));
      code = in_order_same p.code q.code (same_spots_of p q e) r.code;
      few = subst (λ (l : List Phrase). AreFew l) (ap (λ (x : CodeProcedure). x.phrases) e) r.few;
      phrases = subst (λ (l : List Phrase). All (PhraseInRange signals links) l) (ap (λ (x : CodeProcedure). x.phrases) e) r.phrases;
    }

pub can_be_read : (signals : List CodeSignal) (links : List CodeLink) (ps : List CodeProcedure) → All (ProcedureInRange signals links) ps → All CanBeRead ps
can_be_read signals links ps h k d l = let r = h k d l in record { code = r.code; armed = λ i e m. (r.phrases i e m).armed; small = r.depth }

pub same_read : (p q : CodeProcedure) → bare_procedure p ≡ bare_procedure q → CanBeRead p → CanBeRead q
same_read p q e r = record {
  code = in_order_same p.code q.code (same_spots_of p q e) r.code;
  armed = subst (λ (l : List Phrase). All (λ x. 0 < length x.arms) l) (ap (λ (x : CodeProcedure). x.phrases) e) r.armed;
  small = (let d = ap (λ (x : CodeProcedure). x.depth) e in let s = r.small in omega (arith, d, s));
}

pub all_read : (ps qs : List CodeProcedure) → bare ps ≡ bare qs → All CanBeRead ps → All CanBeRead qs
all_read ps qs h r k d l =
    let n = same_count ps qs h in
    let lk : k < length ps = omega (arith, n, l) in
    same_read (get_or ps k d) (get_or qs k d) (same_at_number ps qs k d d h lk) (r k d lk)

pub same_ranges : (signals : List CodeSignal) (links : List CodeLink) (ps qs : List CodeProcedure) → bare ps ≡ bare qs → All (ProcedureInRange signals links) ps → All (ProcedureInRange signals links) qs
same_ranges signals links ps qs h r k d l =
    let n = same_count ps qs h in
    let lk : k < length ps = omega (arith, n, l) in
    same_range signals links (get_or ps k d) (get_or qs k d) (same_at_number ps qs k d d h lk) (r k d lk)

same_body : (x y : Option CodeProcedure) → option_map bare_procedure x ≡ option_map bare_procedure y → IsBody x → IsBody y
same_body None y h b = absurd b
same_body (Some p) None h b = absurd (let e : Some (bare_procedure p) ≡ None = h in none-some (bare_procedure p) (sym e))
same_body (Some p) (Some q) h b =
    let e : bare_procedure p ≡ bare_procedure q = same_Some _ _ h in
    (sym (ap (λ (x : CodeProcedure). x.args) e) ∙ b.0, sym (ap (λ (x : CodeProcedure). x.results) e) ∙ b.1)

pub same_keeps : (globals : ℕ) (signals : List CodeSignal) (strings : List (List ℕ)) (links : List CodeLink) (ps qs : List CodeProcedure) → bare ps ≡ bare qs → KeepsRanges globals signals strings links ps → KeepsRanges globals signals strings links qs
same_keeps globals signals strings links ps qs h r = record {
  few_globals = r.few_globals;
  few_signals = r.few_signals;
  each_signal = r.each_signal;
  few_strings = r.few_strings;
  each_string = r.each_string;
  each_link = r.each_link;
  body = same_body (slice_get ps 0) (slice_get qs 0) (sym (slice_get-map bare_procedure ps 0) ∙ (ap (λ l. slice_get l 0) h ∙ slice_get-map bare_procedure qs 0)) r.body;
  few_procedures = (let n = same_count ps qs h in let f = r.few_procedures in omega (arith, n, f));
  each_procedure = same_ranges signals links ps qs h r.each_procedure;
}

-- code that was taken out and put in again
pub set_bare : (ps : List CodeProcedure) (n : ℕ) (q d : CodeProcedure) → n < length ps → bare_procedure q ≡ bare_procedure (get_or ps n d) → bare (slice_set ps n q) ≡ bare ps
set_bare [] n q d l h = refl
set_bare (p ∷ ps) zero q d l h = ap (λ x. x ∷ bare ps) h
set_bare (p ∷ ps) (suc n) q d l h = ap (λ t. bare_procedure p ∷ t) (set_bare ps n q d (omega arith) h)

pub set_words : (ps : List CodeProcedure) (n : ℕ) (q d : CodeProcedure) → n < length ps → words_of q ≡ words_of (get_or ps n d) → map words_of (slice_set ps n q) ≡ map words_of ps
set_words [] n q d l h = refl
set_words (p ∷ ps) zero q d l h = ap (λ x. x ∷ map words_of ps) h
set_words (p ∷ ps) (suc n) q d l h = ap (λ t. words_of p ∷ t) (set_words ps n q d (omega arith) h)

pub set_twice : (ps : List CodeProcedure) (n : ℕ) (p q : CodeProcedure) → slice_set (slice_set ps n p) n q ≡ slice_set ps n q
set_twice [] n p q = refl
set_twice (x ∷ ps) zero p q = refl
set_twice (x ∷ ps) (suc n) p q = ap (λ t. x ∷ t) (set_twice ps n p q)

-- one procedure more
pub valid_more : (globals strings : ℕ) (signals : List CodeSignal) (links : List CodeLink) (ps : List CodeProcedure) (n : ℕ) → AreValid globals strings signals links ps n
    → ((p : CodeProcedure) → slice_get ps n ≡ Some p → RoutineIsValid (routine_with globals strings signals links ps p)) → AreValid globals strings signals links ps (n + 1)
valid_more globals strings signals links ps n h here k p l e = ⊎_elim (λ (m : k < n). h k p m e)
    (λ (m : n ≤ k). let s : k ≡ n = omega arith in here p (ap (λ i. slice_get ps i) (sym s) ∙ e)) (cases_lt k n)

-- valid code of procedures that differ in depths alone
pub valid_same : (globals strings : ℕ) (signals : List CodeSignal) (links : List CodeLink) (ps qs : List CodeProcedure) → bare ps ≡ bare qs → AreValid globals strings signals links ps (length ps) → AreValid globals strings signals links qs (length qs)
valid_same globals strings signals links ps qs h v k q l e =
    let n = same_count ps qs h in
    let lk : k < length ps = omega (arith, n, l) in
    subst RoutineIsValid (same_routine globals strings signals links ps qs (get_or ps k q) q h (same_procedure ps qs k _ _ h (slice_get-get_or ps k q lk) e))
    (v k (get_or ps k q) lk (slice_get-get_or ps k q lk))

-- the procedure as it was before its code was taken out
pub with_taken : (old left : List CodeProcedure) (n : ℕ) (code : List CodeEntry) (d : CodeProcedure) → n < length old → code ≡ (get_or old n d).code
    → left ≡ slice_set old n (with_code (get_or old n d) []) → with_code (get_or left n d) code ≡ get_or old n d
with_taken old left n code d l c e =
    let here : get_or left n d ≡ with_code (get_or old n d) [] = ap (λ ps. get_or ps n d) e ∙ get_or-set_same old n (with_code (get_or old n d) []) d l in
    ap (λ p. with_code p code) here ∙ ap (λ x. with_code (get_or old n d) x) c

pub taken_words : (old left : List CodeProcedure) (n : ℕ) (d : CodeProcedure) → n < length old → left ≡ slice_set old n (with_code (get_or old n d) []) → map words_of left ≡ map words_of old
taken_words old left n d l e = ap (map words_of) e ∙ set_words old n (with_code (get_or old n d) []) d l refl

pub taken_routine : (globals strings : ℕ) (signals : List CodeSignal) (links : List CodeLink) (old left : List CodeProcedure) (n : ℕ) (code : List CodeEntry) (d : CodeProcedure) → n < length old
    → code ≡ (get_or old n d).code → left ≡ slice_set old n (with_code (get_or old n d) [])
    → routine_with globals strings signals links left (with_code (get_or left n d) code) ≡ routine_with globals strings signals links old (get_or old n d)
taken_routine globals strings signals links old left n code d l c e =
    ap (λ w. made globals strings signals links w (with_code (get_or left n d) code) (spots code)) (taken_words old left n d l e)
    ∙ ap (λ p. routine_with globals strings signals links old p) (with_taken old left n code d l c e)

-- and after it was put in again
pub put_again : (old left new : List CodeProcedure) (n : ℕ) (code : List CodeEntry) (d : CodeProcedure) → n < length old → left ≡ slice_set old n (with_code (get_or old n d) [])
    → new ≡ slice_set left n (with_code (get_or left n d) code) → new ≡ slice_set old n (with_code (get_or old n d) code)
put_again old left new n code d l e f =
    let here : get_or left n d ≡ with_code (get_or old n d) [] = ap (λ ps. get_or ps n d) e ∙ get_or-set_same old n (with_code (get_or old n d) []) d l in
    f ∙ (ap (λ p. slice_set left n (with_code p code)) here ∙ (ap (λ ps. slice_set ps n (with_code (get_or old n d) code)) e ∙ set_twice old n (with_code (get_or old n d) []) (with_code (get_or old n d) code)))

pub put_bare : (old new : List CodeProcedure) (n : ℕ) (code : List CodeEntry) (d : CodeProcedure) → n < length old → spots code ≡ spots (get_or old n d).code
    → new ≡ slice_set old n (with_code (get_or old n d) code) → bare new ≡ bare old
put_bare old new n code d l s e =
    ap bare e ∙ set_bare old n (with_code (get_or old n d) code) d l (ap (λ (c : List CodeEntry). with_code (get_or old n d) c) (same_bare_code code (get_or old n d).code s))

pub put_other : (old new : List CodeProcedure) (n k : ℕ) (code : List CodeEntry) (d : CodeProcedure) → (k ≡ n → ⊥) → new ≡ slice_set old n (with_code (get_or old n d) code) → get_or new k d ≡ get_or old k d
put_other old new n k code d m e = ap (λ ps. get_or ps k d) e ∙ get_or-set_other old n k (with_code (get_or old n d) code) d m

pub put_code : (old new : List CodeProcedure) (n : ℕ) (code : List CodeEntry) (d : CodeProcedure) → n < length old → new ≡ slice_set old n (with_code (get_or old n d) code) → (get_or new n d).code ≡ code
put_code old new n code d l e = ap (λ (p : CodeProcedure). p.code) (ap (λ ps. get_or ps n d) e ∙ get_or-set_same old n (with_code (get_or old n d) code) d l)

-- one procedure more has its depths
pub depths_more : (globals strings : ℕ) (signals : List CodeSignal) (links : List CodeLink) (ps qs : List CodeProcedure) (n : ℕ) → bare qs ≡ bare ps → n < length ps
    → ((k : ℕ) (d : CodeProcedure) → (k ≡ n → ⊥) → get_or qs k d ≡ get_or ps k d)
    → ((d : CodeProcedure) → DepthsAreSettled (routine_with globals strings signals links ps (get_or ps n d)) (get_or qs n d).code)
    → HaveDepths globals strings signals links ps n → HaveDepths globals strings signals links qs (n + 1)
depths_more globals strings signals links ps qs n h ln others here sofar k p l e =
    let len = same_count qs ps h in
    let lk = slice_get_within qs k p e in
    let is : get_or qs k p ≡ p = get_or_from_slice_get qs k p p e in
    ⊎_elim
    (λ (y : k ≡ n).
    let en : slice_get qs n ≡ Some p = ap (λ i. slice_get qs i) (sym y) ∙ e in
    let isn : get_or qs n p ≡ p = get_or_from_slice_get qs n p p en in
    let same = same_routine globals strings signals links ps qs (get_or ps n p) p (sym h) (same_procedure ps qs n (get_or ps n p) p (sym h) (slice_get-get_or ps n p ln) en) in
    subst (λ (r : Routine). DepthsAreSettled r p.code) same
    (subst (λ (q : CodeProcedure). DepthsAreSettled (routine_with globals strings signals links ps (get_or ps n p)) q.code) isn (here p)))
    (λ (m : k ≡ n → ⊥).
    let ek : slice_get ps k ≡ Some p = slice_get-get_or ps k p (omega (arith, len, lk)) ∙ ap Some (sym (others k p m) ∙ is) in
    subst (λ (r : Routine). DepthsAreSettled r p.code) (same_routine globals strings signals links ps qs p p (sym h) refl) (sofar k p (omega arith) ek))
    (cases_eq k n)

-- what is said of a procedure in the list as it stands is said of it in the list as it was
pub valid_at : (globals strings : ℕ) (signals : List CodeSignal) (links : List CodeLink) (old ps : List CodeProcedure) (n : ℕ) → bare ps ≡ bare old
    → ((d : CodeProcedure) → RoutineIsValid (routine_with globals strings signals links ps (get_or ps n d))) → n < length ps
    → (p : CodeProcedure) → slice_get old n ≡ Some p → RoutineIsValid (routine_with globals strings signals links old p)
valid_at globals strings signals links old ps n h v l p e =
    subst RoutineIsValid (same_routine globals strings signals links ps old (get_or ps n p) p h (same_procedure ps old n (get_or ps n p) p h (slice_get-get_or ps n p l) e)) (v p)

abbrev pub no_procedure : CodeProcedure
no_procedure = record { name = []; args = 0; results = 0; frame = 0; depth = 0; code = []; phrases = [] }

pub first_fault_of : (globals strings : ℕ) (signals : List CodeSignal) (links : List CodeLink) (old ps : List CodeProcedure) (n : ℕ) (fault : CodeFault) → bare ps ≡ bare old → n < length ps
    → AreValid globals strings signals links old n → ((d : CodeProcedure) → FirstFault (routine_with globals strings signals links ps (get_or ps n d)) fault)
    → IsFirstFaultOf globals strings signals links old (record { procedure = n; fault = fault })
first_fault_of globals strings signals links old ps n fault h l before f =
    let len = same_count ps old h in
    let lo : n < length old = omega (arith, len, l) in
    record {
      procedure = get_or old n no_procedure;
      is = slice_get-get_or old n no_procedure lo;
      before = before;
      fault = subst (λ r. FirstFault r fault) (same_routine globals strings signals links ps old (get_or ps n no_procedure) (get_or old n no_procedure) h (same_at_number ps old n no_procedure no_procedure h l)) (f no_procedure);
    }

-- the same over equal parts
pub valid_over : (globals strings strings' : ℕ) (signals signals' : List CodeSignal) (links links' : List CodeLink) (ps qs : List CodeProcedure) → strings ≡ strings' → signals ≡ signals' → links ≡ links'
    → bare ps ≡ bare qs → AreValid globals strings signals links ps (length ps) → AreValid globals strings' signals' links' qs (length qs)
valid_over globals strings strings' signals signals' links links' ps qs a b c h v =
    subst (λ n. AreValid globals n signals' links' qs (length qs)) a
    (subst (λ s. AreValid globals strings s links' qs (length qs)) b
    (subst (λ l. AreValid globals strings signals l qs (length qs)) c (valid_same globals strings signals links ps qs h v)))

-- that procedures can be read holds in one way
pub read_once : (ps : List CodeProcedure) → IsProp (All CanBeRead ps)
read_once ps = hlevel props
