-- Where jumps go, and the numbers of instructions.
use Rattle.std.proofs.Common.{◌≡◌, ℕ, zero, suc, ◌+◌, ◌-◌, ◌^◌, ◌<◌, ◌≤◌, inl, inr, ⊎_elim, List, [], ◌∷◌, ◌++◌, length, get_or, Some, refl, sym, ap, subst, ◌∙◌, arith}
use Rattle.std.specs.Prelude.{slice_index}
use Rattle.std.specs.List.{AllWithin}
use Rattle.std.specs.Option.{option_or}
use Rattle.std.proofs.lemmas.Bool.{cases_lt}
use Rattle.std.proofs.lemmas.List.{length_push, get_or_append_left, get_or_push}
use Rattle.std.proofs.lemmas.Option.{none-some, same_Some, slice_get_within, slice_get-get_or, get_or_from_slice_get}
use Rattle.code_forms.specs.declared.instruction.Instruction.{Instruction}
use Rattle.code_forms.specs.declared.instruction.Instruction.TheVariants.{Jump, JumpIf, JumpIfNot, JumpBack}
use Rattle.code_forms.specs.declared.module_code.CodeEntry.{CodeEntry}
use Rattle.code_forms.specs.Depths.{forward_target, backward_target}
use Rattle.code_forms.specs.Jumps.{JumpsRightly}
use Rattle.code_forms.specs.Ranges.{InOrder}
use Rattle.code_forms.specs.Routine.{Routine, Begins, IsStart, spots}
use Rattle.code_forms.proofs.Ordered.{blank, some_bytes, at_less, at_of_begins, spot_within}
use Rattle.machine_activations.specs.machine_topmost.specs.Running.{HasTargets}
use Rattle.machine_ready.specs.Targets.{JumpsTo}

pub jump_of : (i : Instruction) (offset : ℕ) → JumpsTo i offset → option_or (forward_target i) (backward_target i) ≡ Some offset
jump_of i offset (inl e) = rw e refl
jump_of (JumpBack target) offset (inr e) = e
jump_of _ offset (inr e) = absurd (none-some offset e)

-- a jump of valid code goes to the beginning of an instruction
pub jump_starts : (r : Routine) (at offset : ℕ) (i : Instruction) → JumpsTo i offset → JumpsRightly r at i → IsStart r.code offset
jump_starts r at offset (Jump target) (inl e) j = subst (λ n. IsStart r.code n) (same_Some target offset e) j.start
jump_starts r at offset (JumpIf target) (inl e) j = subst (λ n. IsStart r.code n) (same_Some target offset e) j.start
jump_starts r at offset (JumpIfNot target) (inl e) j = subst (λ n. IsStart r.code n) (same_Some target offset e) j.start
jump_starts r at offset (JumpBack target) (inr e) j = subst (λ n. IsStart r.code n) (same_Some target offset e) j.start
jump_starts r at offset _ (inl e) j = absurd (none-some offset e)
jump_starts r at offset _ (inr e) j = absurd (none-some offset e)

-- before an instruction are at least as many bytes as instructions
number_at : (code : List CodeEntry) → InOrder code → (i : ℕ) → i < length code → i ≤ (get_or code i blank).at
number_at code o zero l = omega arith
number_at code o (suc i) l =
    let before = number_at code o i (omega arith) in
    let less = at_less code i (suc i) blank o (omega arith) l in
    omega (arith, before, less)

pub few_entries : (code : List CodeEntry) → InOrder code → length code < 2 ^ 32
few_entries code o =
    let some = o.some in
    let last : length code - 1 < length code = omega arith in
    let at = number_at code o (length code - 1) last in
    let ends = o.short (length code - 1) blank last in
    let bytes = some_bytes (get_or code (length code - 1) blank).instruction in
    omega (arith, some, at, ends, bytes)

-- where none before a place begins at the offset, and none from it on begins before, the instruction that begins there is the place's
pub entry_found : (code : List CodeEntry) (count offset : ℕ) → InOrder code → AllWithin (λ e. e.at < offset) code 0 count
    → AllWithin (λ e. offset ≤ e.at) code count (length code) → IsStart (spots code) offset → Begins (spots code) count offset
entry_found code count offset o before rest s =
    let i = s.number in
    let x = at_of_begins code i offset blank s.begins in
    let there = spot_within code i s.begins.spot s.begins.is in
    let same : i ≡ count = ⊎_elim
    (λ (l : i < count). absurd (let b = before i blank (omega arith) l in omega (arith, x, b)))
    (λ (l : count ≤ i). ⊎_elim
    (λ (m : count < i). absurd (let r = rest count blank (omega arith) (omega arith) in let z = at_less code count i blank o m there in omega (arith, x, r, z)))
    (λ (m : i ≤ count). omega arith)
    (cases_lt count i))
    (cases_lt i count) in
    subst (λ k. Begins (spots code) k offset) same s.begins

-- beside each of the first so many entries stands the number of that to which it jumps
pub record TargetsUpTo (code : List CodeEntry) (n : ℕ) (targets : List ℕ) : Type 0 where
  pub beside : length targets ≡ n
  pub lead : (i offset : ℕ) → i < n → JumpsTo (get_or code i blank).instruction offset → Begins (spots code) (slice_index targets i) offset

pub targets_none : (code : List CodeEntry) (targets : List ℕ) → targets ≡ [] → TargetsUpTo code 0 targets
targets_none code targets e = record { beside = ap length e; lead = λ i offset l j. absurd (omega arith) }

pub targets_more : (code : List CodeEntry) (n target : ℕ) (targets later : List ℕ) (d : CodeEntry) → n < length code
    → later ≡ targets ++ target ∷ [] → ((offset : ℕ) → JumpsTo (get_or code n d).instruction offset → Begins (spots code) target offset)
    → TargetsUpTo code n targets → TargetsUpTo code (n + 1) later
targets_more code n target targets later d less grown leads h = subst (λ (l : List ℕ). TargetsUpTo code (n + 1) l) (sym grown) (record {
  beside = (let b = h.beside in let k = length_push targets target in omega (arith, b, k));
  lead = λ k offset l jumps. ⊎_elim
      (λ (m : k < n).
      let old : slice_index (targets ++ target ∷ []) k ≡ slice_index targets k = get_or_append_left targets (target ∷ []) 0 k (let b = h.beside in omega (arith, b)) in
      subst (λ t. Begins (spots code) t offset) (sym old) (h.lead k offset m jumps))
      (λ (m : n ≤ k).
      let own : k ≡ n = omega arith in
      let new : slice_index (targets ++ target ∷ []) k ≡ target = get_or_push targets target 0 k (let b = h.beside in omega (arith, b)) in
      let here : get_or code k blank ≡ get_or code n d =
      ap (λ q. get_or code q blank) own ∙ get_or_from_slice_get code n (get_or code n d) blank (slice_get-get_or code n d less) in
      subst (λ t. Begins (spots code) t offset) (sym new) (leads offset (subst (λ (x : CodeEntry). JumpsTo x.instruction offset) here jumps)))
      (cases_lt k n);
})

pub has_targets : (code : List CodeEntry) (n : ℕ) (targets : List ℕ) → n ≡ length code → TargetsUpTo code n targets → HasTargets code targets
has_targets code n targets all h = record {
  beside = h.beside ∙ all;
  lead = λ i offset e at jumps.
      let there : i < length code = slice_get_within code i e at in
      let same : get_or code i blank ≡ e = get_or_from_slice_get code i e blank at in
      h.lead i offset (omega (arith, all)) (subst (λ (x : CodeEntry). JumpsTo x.instruction offset) (sym same) jumps);
}
