-- Code within what its types say fits the forms of files.
use Rattle.std.proofs.Common.{◌≡◌, ℕ, zero, suc, ◌+◌, ◌-◌, ◌<◌, ◌≤◌, ◌^◌, true, List, [], ◌∷◌, ◌++◌, length, map, get_or, Option, Some, None, slice_get, refl, sym, ap, subst, arith}
use Rattle.std.specs.Prelude.{All, ◌||◌, ◌==◌, nat_le}
use Rattle.std.specs.List.{AllZip, AllAdjacentBelow}
use Rattle.std.proofs.lemmas.Bool.{and_from, le-leb, lt-ltb, eq-eqb}
use Rattle.std.proofs.lemmas.List.{length-map}
use Rattle.mesa_base.specs.Name.{IsName}
use Rattle.mesa_base.specs.declared.limits.TheConstants.{STRING_BYTES}
use Rattle.code_forms.specs.declared.limits.TheConstants.{FRAME_WORDS, STACK_WORDS}
use Rattle.code_forms.specs.declared.instruction.Instruction.{Instruction}
use Rattle.code_forms.specs.declared.module_code.Arm.{Arm}
use Rattle.code_forms.specs.declared.module_code.CodeEntry.{CodeEntry}
use Rattle.code_forms.specs.declared.module_code.CodeKind.{CodeKind}
use Rattle.code_forms.specs.declared.module_code.CodeKind.TheVariants.{Procedure, Signal, Error}
use Rattle.code_forms.specs.declared.module_code.CodeLink.{CodeLink}
use Rattle.code_forms.specs.declared.module_code.CodeProcedure.{CodeProcedure}
use Rattle.code_forms.specs.declared.module_code.CodeSignal.{CodeSignal}
use Rattle.code_forms.specs.declared.module_code.Label.{Label}
use Rattle.code_forms.specs.declared.module_code.Label.TheVariants as l
use Rattle.code_forms.specs.declared.module_code.Phrase.{Phrase}
use Rattle.code_forms.specs.Instructions.{bytes_of, number_of}
use Rattle.code_forms.specs.Ranges.{IsSignalWith, SignalInRange, IsSignalLink, LabelInRange, ArmInRange, PhraseInRange, InOrder, ProcedureInRange, IsBody}
use Rattle.file_forms.specs.Forms.{Form, FitEach, AreBytes, list, at_least, between}
use Rattle.object_rules.specs.CatchForms.{is_signal_kind, is_signal_link, own_label, link_label, label_at, label, arm, phrase}
use Rattle.object_rules.specs.Filling.{FitFull, size_of_all}
use Rattle.object_rules.specs.Instructions.{sizes_of, size_of, operands_of, numbers, instruction}
use Rattle.object_rules.specs.ModuleForms.{signal_kind, may_give, signal, text, may_have, code, procedure}
use Rattle.object_rules.specs.Parts.{ProcedurePart, instructions, procedure_part}
use Rattle.object_rules.proofs.InstructionLaws.{sizes_sum}
use Rattle.spelled_laws.proofs.Names.{name_fits}
use Rattle.built_files.specs.Objects.{InBytes, OperandsInBytes, LabelInBytes, ArmInBytes, PhraseInBytes, ProcedureInBytes}
use Rattle.built_files.proofs.Opcodes.{known, few}

-- ---- lists

pub each_of : {A : Type 0} (f : Form A) (P : A → Type 0) → ((a : A) → P a → f.fits a) → (before all : List A) → All P all → FitEach (λ _. f) before all
unfolding FitEach
each_of f P put before [] h = tt
each_of f P put before (a ∷ all) h = (put a (h zero a (omega arith)), each_of f P put (before ++ a ∷ []) all (λ k d less. h (suc k) d (omega (arith, less))))

-- ---- signals and texts

put_kind : (k : CodeKind) (results : ℕ) → IsSignalWith k results → signal_kind.fits k × (may_give k results ≡ true)
unfolding signal_kind
put_kind Procedure results h = absurd h
put_kind Signal results h = ((omega arith, refl), refl)
put_kind Error results h = ((omega arith, refl), eq-eqb results 0 h)

pub put_signal : (s : CodeSignal) → IsName s.name → SignalInRange s → InBytes 2 s.args → InBytes 2 s.results → signal.fits s
unfolding signal
put_signal s n r a b = let k = put_kind s.kind s.results r in (k.0, (name_fits s.name n, (a, (b, k.1))))

all_bytes : (t : List ℕ) → All (λ b. b < 256) t → AreBytes t
all_bytes [] h i = omega arith
all_bytes (b ∷ t) h zero = h zero b (omega arith)
all_bytes (b ∷ t) h (suc i) = all_bytes t (λ k d less. h (suc k) d (omega (arith, less))) i

pub put_text : (t : List ℕ) → length t ≤ STRING_BYTES → All (λ b. b < 256) t → text.fits t
unfolding text
put_text t short h = let few : length t ≤ 32767 = short in ((omega (arith, few), le-leb (length t) STRING_BYTES short), (refl, all_bytes t h))

-- ---- labels, arms and phrases

module _ (signals : List CodeSignal) (links : List CodeLink) where
  signal_link : (k : CodeKind) (results : ℕ) → IsSignalWith k results → is_signal_kind k ≡ true
  signal_link Procedure results h = absurd h
  signal_link Signal results h = refl
  signal_link Error results h = refl

  put_link : (o : Option CodeLink) → IsSignalLink o → is_signal_link o ≡ true
  put_link None h = absurd h
  put_link (Some link) h = signal_link link.kind link.results h

  put_label : (x : Label) → LabelInRange signals links x → LabelInBytes x → (label signals links).fits x
  unfolding label label_at own_label link_label
  put_label l.Any h b = ((omega arith, refl), refl)
  put_label l.Unwind h b = ((omega arith, refl), refl)
  put_label (l.Own n) h b = ((omega arith, refl), (b, lt-ltb n (length signals) h))
  put_label (l.Link n) h b = ((omega arith, refl), (b, put_link (slice_get links n) h))
  put_label l.BoundsFault h b = ((omega arith, refl), refl)
  put_label l.ZeroDivisor h b = ((omega arith, refl), refl)

  both : {A : Type 0} (P Q : A → Type 0) (all : List A) → All P all → All Q all → All (λ a. P a × Q a) all
  both P Q all h k n d less = (h n d less, k n d less)

  put_arm : (a : Arm) → ArmInRange signals links a → ArmInBytes a → (arm signals links).fits a
  unfolding arm
  put_arm a r b = (
    (
      (r.few, le-leb 1 (length a.labels) r.labelled),
      (
        refl,
        each_of (label signals links) (λ x. LabelInRange signals links x × LabelInBytes x) (λ x h. put_label x h.0 h.1) [] a.labels
            (both (LabelInRange signals links) LabelInBytes a.labels r.labels b.labels),
      ),
    ),
    (b.slot, (b.words, (b.start, b.end))),
  )

  put_phrase : (p : Phrase) → PhraseInRange signals links p → PhraseInBytes p → (phrase signals links).fits p
  unfolding phrase
  put_phrase p r b = (
    b.from,
    (
      b.to,
      (
        (r.few, le-leb 1 (length p.arms) r.armed),
        (
          refl,
          each_of (arm signals links) (λ a. ArmInRange signals links a × ArmInBytes a) (λ a h. put_arm a h.0 h.1) [] p.arms
              (both (ArmInRange signals links) ArmInBytes p.arms r.arms b.arms),
        ),
      ),
    ),
  )

-- ---- instructions

put_numbers : (sizes ns : List ℕ) → AllZip InBytes sizes ns → (numbers sizes).fits ns
unfolding numbers
put_numbers [] [] h = refl
put_numbers [] (n ∷ ns) h = absurd h
put_numbers (size ∷ sizes) [] h = absurd h
put_numbers (size ∷ sizes) (n ∷ ns) h = (h.0, put_numbers sizes ns h.1)

put_instruction : (left : ℕ) (x : Instruction) → OperandsInBytes x → bytes_of x ≤ left → (instruction left).fits x
unfolding instruction
put_instruction left x h room = (
  (few x, and_from (between 0x01 0x3D (number_of x)) (nat_le (size_of (number_of x)) left) (known x) (le-leb (size_of (number_of x)) left (omega (arith, room, sizes_sum x)))),
  put_numbers (sizes_of (number_of x)) (operands_of x) h,
)

some_bytes : (x : Instruction) → 0 < bytes_of x
some_bytes x = omega (arith, sizes_sum x)

rest_left : (n m : ℕ) → n + m - n ≡ m
rest_left n m = omega arith

put_full : (all : List CodeEntry) → All (λ (e : CodeEntry). OperandsInBytes e.instruction) all → FitFull bytes_of instruction (size_of_all bytes_of (instructions all)) (instructions all)
unfolding FitFull size_of_all
put_full [] h = refl
put_full (e ∷ all) h =
    let some = some_bytes e.instruction in (
      omega (arith, some),
      put_instruction (bytes_of e.instruction + size_of_all bytes_of (instructions all)) e.instruction (h zero e (omega arith)) (omega arith),
      subst (λ n. FitFull bytes_of instruction n (instructions all)) (sym (rest_left (bytes_of e.instruction) (size_of_all bytes_of (instructions all))))
          (put_full all (λ k d less. h (suc k) d (omega (arith, less)))),
    )

abbrev pub Joins : CodeEntry → CodeEntry → Type 0
Joins e f = e.at + bytes_of e.instruction ≡ f.at

abbrev Short : CodeEntry → Type 0
Short e = e.at + bytes_of e.instruction < 2 ^ 32

one_later : (k : ℕ) → suc k + 1 ≡ suc (k + 1)
one_later k = omega arith

-- those behind the first join too
pub joined_rest : (e : CodeEntry) (rest : List CodeEntry) → AllAdjacentBelow Joins (e ∷ rest) (length (e ∷ rest)) → AllAdjacentBelow Joins rest (length rest)
joined_rest e rest j k d less = subst (λ n. Joins (get_or rest k d) (get_or (e ∷ rest) n d)) (one_later k) (j (suc k) d (omega (arith, less)))

ends : (e : CodeEntry) (all : List CodeEntry) → AllAdjacentBelow Joins (e ∷ all) (length (e ∷ all)) → All Short (e ∷ all) → e.at + size_of_all bytes_of (instructions (e ∷ all)) < 2 ^ 32
unfolding size_of_all
ends e [] j s = let here : e.at + bytes_of e.instruction < 2 ^ 32 = s zero e (omega arith) in omega (arith, here)
ends e (f ∷ all) j s =
    let more = ends f all (joined_rest e (f ∷ all) j) (λ k d less. s (suc k) d (omega (arith, less))) in
    let here : e.at + bytes_of e.instruction ≡ f.at = j zero e (omega arith) in
    omega (arith, more, here)

some_size : (e : CodeEntry) (all : List CodeEntry) → 1 ≤ size_of_all bytes_of (instructions (e ∷ all))
unfolding size_of_all
some_size e all = let some = some_bytes e.instruction in omega (arith, some)

from_zero : (at n : ℕ) → at + n < 2 ^ 32 → n < 4294967296
from_zero at n h = omega (arith, h)

pub put_code : (all : List CodeEntry) → InOrder all → All (λ (e : CodeEntry). OperandsInBytes e.instruction) all → code.fits (instructions all)
unfolding code
put_code [] r h = absurd (let none : 0 < 0 = r.some in omega (arith, none))
put_code (e ∷ all) r h = (
  (
    from_zero e.at (size_of_all bytes_of (instructions (e ∷ all))) (ends e all r.joined r.short),
    le-leb 1 (size_of_all bytes_of (instructions (e ∷ all))) (some_size e all),
  ),
  put_full (e ∷ all) h,
)

-- ---- procedures

depth_few : (n : ℕ) → n ≤ STACK_WORDS → n < 4294967296
depth_few n h = omega (arith, h)

pub record Fine (signals : List CodeSignal) (links : List CodeLink) (p : CodeProcedure) : Type 0 where
  pub name : IsName p.name
  pub ranges : ProcedureInRange signals links p
  pub numbers : ProcedureInBytes p

module _ (signals : List CodeSignal) (links : List CodeLink) where
  put_procedure : (before : List ProcedurePart) (p : CodeProcedure) → Fine signals links p → may_have before p.args ≡ true → may_have before p.results ≡ true
      → (procedure signals links before).fits (procedure_part p)
  unfolding procedure
  put_procedure before p h a b =
      let frame : p.frame ≤ 2048 = h.ranges.frame in
      let words = h.ranges.words in
      let depth = depth_few p.depth h.ranges.depth in (
        name_fits p.name h.name,
        (
          (omega (arith, frame, words), a),
          (
            (omega (arith, frame, words), b),
            (
              (
                omega (arith, frame),
                and_from (nat_le (p.args + p.results) p.frame) (nat_le p.frame FRAME_WORDS) (le-leb (p.args + p.results) p.frame words) (le-leb p.frame FRAME_WORDS h.ranges.frame),
              ),
              (
                (depth, le-leb p.depth STACK_WORDS h.ranges.depth),
                (
                  put_code p.code h.ranges.code h.numbers.code,
                  (
                    (h.ranges.few, le-leb 0 (length p.phrases) (omega arith)),
                    (
                      refl,
                      each_of (phrase signals links) (λ q. PhraseInRange signals links q × PhraseInBytes q) (λ q k. put_phrase signals links q k.0 k.1) [] p.phrases
                          (λ n d less. (h.ranges.phrases n d less, h.numbers.phrases n d less)),
                    ),
                  ),
                ),
              ),
            ),
          ),
        ),
      )

  may_behind : (q : ProcedurePart) (before : List ProcedurePart) (words : ℕ) → may_have (q ∷ before) words ≡ true
  may_behind q before words = ap (λ b. b || (words == 0)) (lt-ltb 0 (length (q ∷ before)) (omega arith))

  others : (q : ProcedurePart) (before : List ProcedurePart) (all : List CodeProcedure) → All (Fine signals links) all → FitEach (procedure signals links) (q ∷ before) (map procedure_part all)
  unfolding FitEach
  others q before [] h = tt
  others q before (p ∷ all) h = (
    put_procedure (q ∷ before) p (h zero p (omega arith)) (may_behind q before p.args) (may_behind q before p.results),
    others q (before ++ procedure_part p ∷ []) all (λ k d less. h (suc k) d (omega (arith, less))),
  )

  may_first : (words : ℕ) → words ≡ 0 → may_have [] words ≡ true
  may_first words e = eq-eqb words 0 e

  pub put_procedures : (all : List CodeProcedure) → IsBody (slice_get all 0) → length all < 4294967296 → All (Fine signals links) all
      → (list (at_least 1) (procedure signals links)).fits (map procedure_part all)
  unfolding FitEach
  put_procedures [] body less h = absurd body
  put_procedures (p ∷ all) body less h =
      let many = length-map (p ∷ all) procedure_part in (
        (omega (arith, less, many), le-leb 1 (length (map procedure_part (p ∷ all))) (omega arith)),
        (
          refl,
          (
            put_procedure [] p (h zero p (omega arith)) (may_first p.args body.0) (may_first p.results body.1),
            others (procedure_part p) [] all (λ k d few. h (suc k) d (omega (arith, few))),
          ),
        ),
      )
