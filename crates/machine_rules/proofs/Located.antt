-- Where an activation of a valid image stands, and what it finds there.
use Rattle.std.proofs.Common.{◌≡◌, ⊎_elim, ℕ, zero, suc, ◌+◌, ◌-◌, ◌<◌, ◌≤◌, List, [], ◌∷◌, length, get_or, Bool, true, false, Option, Some, None, refl, sym, ap, subst, ◌∙◌, arith}
use Rattle.std.specs.Prelude.{nat_eq, slice_get, option_map, option_and_then}
use Rattle.std.proofs.lemmas.Bool.{eq-eqb, cases_lt}
use Rattle.std.proofs.lemmas.Option.{none-some, same_Some, slice_get_within, slice_get-get_or, get_or_from_slice_get}
use Rattle.code_forms.specs.declared.instruction.Instruction.{Instruction}
use Rattle.code_forms.specs.declared.module_code.CodeEntry.{CodeEntry}
use Rattle.code_forms.specs.declared.module_code.CodeProcedure.{CodeProcedure}
use Rattle.code_forms.specs.declared.module_code.ModuleCode.{ModuleCode}
use Rattle.code_forms.specs.Depths.{Stays}
use Rattle.code_forms.specs.Instructions.{bytes_of}
use Rattle.code_forms.specs.Jumps.{JumpsRightly}
use Rattle.code_forms.specs.Operands.{OperandsFit}
use Rattle.code_forms.specs.Ranges.{InOrder, KeepsRanges}
use Rattle.code_forms.specs.Regions.{region_at}
use Rattle.code_forms.specs.Routine.{Routine, Spot, routine, spots, spot_of, goes_on, IsStart, code_end, end_of}
use Rattle.code_forms.specs.Valid.{Valid, RoutineIsValid, SpotIsRight}
use Rattle.code_forms.proofs.Leading.{spot_there}
use Rattle.code_forms.proofs.Ordered.{spot_within, same_spot, spots_length, ends_before, some_bytes}
use Rattle.object_files.specs.declared.image.Image.{Image}
use Rattle.object_files.specs.declared.object.Object.{Object}
use Rattle.machine_rules.specs.LookUps.{module_number, code_in, code_of, procedure_of, instruction_at}
use Rattle.machine_rules.proofs.OneResult.{Found, found}
use Rattle.machine_rules.specs.Laws.{CanRun}

-- what is known of an image that can be run
pub record World (image : Image) : Type 0 where
  pub ready : CanRun image
  pub keeps : (n : ℕ) (o : Object) → slice_get image.modules n ≡ Some o
      → KeepsRanges o.code.global_words o.code.signals o.code.strings o.code.links o.code.procedures

-- the code of an instance
pub record Right (image : Image) (j : ℕ) (m : ModuleCode) : Type 0 where
  pub valid : Valid m
  pub ranges : KeepsRanges m.global_words m.signals m.strings m.links m.procedures

right_in : (image : Image) → World image → (n : ℕ) (o : Option Object) → slice_get image.modules n ≡ o → (j : ℕ) (m : ModuleCode)
    → option_map (λ (object : Object). object.code) o ≡ Some m → Right image j m
right_in image w n None e j m is = absurd (none-some m is)
right_in image w n (Some o) e j m is = subst (λ (c : ModuleCode). Right image j c) (same_Some o.code m is) (record { valid = w.ready.code n o e; ranges = w.keeps n o e })

right_of : (image : Image) → World image → (j : ℕ) (m : ModuleCode) (n : Option ℕ) → option_and_then (code_in image) n ≡ Some m → Right image j m
unfolding code_in
right_of image w j m None e = absurd (none-some m e)
right_of image w j m (Some n) e = right_in image w n (slice_get image.modules n) refl j m e

pub right : (image : Image) → World image → (j : ℕ) (m : ModuleCode) → code_of image j ≡ Some m → Right image j m
unfolding code_of
right image w j m e = right_of image w j m (module_number image j) e

-- a procedure of an instance
pub record Has (image : Image) (j : ℕ) (p : CodeProcedure) : Type 0 where
  pub code : ModuleCode
  pub is : code_of image j ≡ Some code
  pub number : ℕ
  pub there : slice_get code.procedures number ≡ Some p
  pub valid : RoutineIsValid (routine code p)
  pub order : InOrder p.code
  pub ranges : KeepsRanges code.global_words code.signals code.strings code.links code.procedures

has_in : (image : Image) → World image → (j n : ℕ) (p : CodeProcedure) (o : Option ModuleCode) → code_of image j ≡ o
    → option_and_then (λ (m : ModuleCode). slice_get m.procedures n) o ≡ Some p → Has image j p
has_in image w j n p None e is = absurd (none-some p is)
has_in image w j n p (Some m) e is =
    let r = right image w j m e in
    let l = slice_get_within m.procedures n p is in
    record {
      code = m;
      is = e;
      number = n;
      there = is;
      valid = r.valid n p l is;
      order = subst (λ q. InOrder q.code) (same_Some (get_or m.procedures n p) p (sym (slice_get-get_or m.procedures n p l) ∙ is)) (r.ranges.each_procedure n p l).code;
      ranges = r.ranges;
    }

pub has : (image : Image) → World image → (j n : ℕ) (p : CodeProcedure) → procedure_of image j n ≡ Some p → Has image j p
unfolding procedure_of
has image w j n p e = has_in image w j n p (code_of image j) refl e

-- an instruction begins at an offset
pub record Starts (code : List CodeEntry) (offset : ℕ) : Type 0 where
  pub instruction : Instruction
  pub is : instruction_at code offset ≡ Some instruction

starts_if : (e : CodeEntry) (code : List CodeEntry) (offset : ℕ) (b : Bool) → nat_eq e.at offset ≡ b → Starts code offset → Starts (e ∷ code) offset
unfolding instruction_at
starts_if e code offset true b s = record { instruction = e.instruction; is = rw b refl }
starts_if e code offset false b s = record { instruction = s.instruction; is = rw b s.is }

pub starts : (code : List CodeEntry) (k offset : ℕ) (e : CodeEntry) → slice_get code k ≡ Some e → e.at ≡ offset → Starts code offset
unfolding instruction_at
starts [] k offset e is at = absurd (none-some e is)
starts (f ∷ code) zero offset e is at =
    let same = same_Some f e is in
    let b : nat_eq f.at offset ≡ true = eq-eqb f.at offset (ap (λ (x : CodeEntry). x.at) same ∙ at) in
    record { instruction = f.instruction; is = rw b refl }
starts (f ∷ code) (suc k) offset e is at = starts_if f code offset (nat_eq f.at offset) refl (starts code k offset e is at)

pub start_there : (code : List CodeEntry) (offset : ℕ) → IsStart (spots code) offset → Starts code offset
start_there code offset s =
    let spot = s.begins.spot in
    let d : CodeEntry = record { at = 0; depth = 0; instruction = spot.instruction } in
    let same = same_spot code s.number d spot s.begins.is in
    starts code s.number offset (get_or code s.number d) (slice_get-get_or code s.number d (spot_within code s.number spot s.begins.is))
    (ap (λ (x : Spot). x.at) same ∙ s.begins.at)

-- what holds of the instruction at an offset
pub record Stood (r : Routine) (k offset : ℕ) (i : Instruction) : Type 0 where
  pub jump : JumpsRightly r offset i
  pub operands : OperandsFit r (region_at r.phrases offset) i
  pub stays : Stays r k (record { at = offset; instruction = i })

pub record StandsAt (image : Image) (j : ℕ) (p : CodeProcedure) (h : Has image j p) (offset : ℕ) (i : Instruction) : Type 0 where
  pub found : Found p.code offset i
  pub stood : Stood (routine h.code p) found.number offset i

pub stands_at : (image : Image) (j : ℕ) (p : CodeProcedure) (h : Has image j p) (offset : ℕ) (i : Instruction) → instruction_at p.code offset ≡ Some i
    → StandsAt image j p h offset i
stands_at image j p h offset i e =
    let f = found p.code offset i e in
    let at = spot_there p.code f.number f.entry f.is in
    let s : SpotIsRight (routine h.code p) f.number (spot_of f.entry) =
    h.valid.spots f.number (spot_of f.entry) (slice_get_within (spots p.code) f.number (spot_of f.entry) at) at in
    let t : SpotIsRight (routine h.code p) f.number (record { at = offset; instruction = f.entry.instruction }) =
    subst (λ x. SpotIsRight (routine h.code p) f.number (record { at = x; instruction = f.entry.instruction })) f.begins s in
    let u : SpotIsRight (routine h.code p) f.number (record { at = offset; instruction = i }) =
    subst (λ x. SpotIsRight (routine h.code p) f.number (record { at = offset; instruction = x })) f.instruction t in
    record { found = f; stood = record { jump = u.jump; operands = u.operands.own; stays = u.stack.stays } }

-- the next instruction is in the same region
pub record Next (p : CodeProcedure) (offset next : ℕ) : Type 0 where
  pub starts : Starts p.code next
  pub region : region_at p.phrases next ≡ region_at p.phrases offset

pub next : (image : Image) (j : ℕ) (p : CodeProcedure) (h : Has image j p) (offset : ℕ) (i : Instruction) → StandsAt image j p h offset i
    → goes_on (routine h.code p) i ≡ true → Next p offset (offset + bytes_of i)
next image j p h offset i s g =
    let f = s.found in
    let st = s.stood.stays g in
    let n = spots_length p.code in
    let len : f.number + 1 < length p.code = (let a = st.0 in omega (arith, a, n)) in
    let e = f.entry in
    let j = h.order.joined f.number e len in
    let same : get_or p.code f.number e ≡ e = get_or_from_slice_get p.code f.number e e f.is in
    record {
      starts = starts p.code (f.number + 1) (offset + bytes_of i) (get_or p.code (f.number + 1) e) (slice_get-get_or p.code (f.number + 1) e len)
          (sym j ∙ ap (λ (x : CodeEntry). x.at + bytes_of x.instruction) same ∙ ap (λ x. x + bytes_of e.instruction) f.begins ∙ ap (λ x. offset + bytes_of x) f.instruction);
      region = st.1;
    }

last_end : (code : List CodeEntry) (d : CodeEntry) → InOrder code
    → code_end (spots code) ≡ (get_or code (length code - 1) d).at + bytes_of (get_or code (length code - 1) d).instruction
last_end code d o =
    let some = o.some in
    ap (λ k. end_of (slice_get (spots code) (k - 1))) (spots_length code)
    ∙ ap end_of (spot_there code (length code - 1) (get_or code (length code - 1) d) (slice_get-get_or code (length code - 1) d (omega (arith, some))))

-- an instruction begins before the end
pub start_below : (code : List CodeEntry) → InOrder code → (offset : ℕ) → IsStart (spots code) offset → offset < code_end (spots code)
start_below code o offset s =
    let spot = s.begins.spot in
    let d : CodeEntry = record { at = 0; depth = 0; instruction = spot.instruction } in
    let k = s.number in
    let n = length code - 1 in
    let within = spot_within code k spot s.begins.is in
    let at : (get_or code k d).at ≡ offset = ap (λ (x : Spot). x.at) (same_spot code k d spot s.begins.is) ∙ s.begins.at in
    let end = last_end code d o in
    let bytes = some_bytes (get_or code n d).instruction in
    ⊎_elim
    (λ (less : k < n). let e = ends_before code k n d o less (omega (arith, within)) in omega (arith, at, end, bytes, e))
    (λ (most : n ≤ k). let same : n ≡ k = omega (arith, most, within) in
    let e : (get_or code n d).at ≡ offset = ap (λ j. (get_or code j d).at) same ∙ at in omega (arith, e, end, bytes))
    (cases_lt k n)
