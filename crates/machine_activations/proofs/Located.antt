-- What a prepared image has where an activation stands.
use Rattle.std.proofs.Common.{◌≡◌, ℕ, zero, suc, ◌+◌, ◌<◌, ◌≤◌, List, length, get_or, Option, Some, None, refl, sym, ap, subst, ◌∙◌, arith}
use Rattle.std.specs.Prelude.{slice_get, option_map, option_and_then}
use Rattle.std.proofs.Math.Logic.{∥∥₁_elim}
use Rattle.std.proofs.Math.Bridge.{le_prop}
use Rattle.std.proofs.lemmas.Option.{none-some, same_Some, slice_get_within, get_or_from_slice_get}
use Rattle.code_forms.specs.declared.module_code.CodeEntry.{CodeEntry}
use Rattle.code_forms.specs.declared.module_code.CodeProcedure.{CodeProcedure}
use Rattle.code_forms.specs.declared.module_code.ModuleCode.{ModuleCode}
use Rattle.code_forms.specs.Instructions.{bytes_of}
use Rattle.code_forms.specs.Ranges.{InOrder}
use Rattle.code_forms.specs.Routine.{Spot, Begins, spot_of, spots}
use Rattle.code_forms.specs.Valid.{Valid, HasDepths}
use Rattle.code_forms.proofs.Leading.{spot_there, begins_there}
use Rattle.code_forms.proofs.Ordered.{blank, at_less, begins_once, spot_within}
use Rattle.object_files.specs.declared.image.Image.{Image}
use Rattle.object_files.specs.declared.object.Object.{Object}
use Rattle.machine_rules.specs.State.{Active}
use Rattle.machine_rules.specs.LookUps.{module_number, code_in, code_of, procedure_of, instruction_at, instruction_under}
use Rattle.machine_rules.proofs.Going.{under_is}
use Rattle.machine_rules.proofs.Located.{starts}
use Rattle.machine_rules.proofs.OneResult.{found}
use Rattle.machine_activations.specs.declared.row.Layout.{Layout}
use Rattle.machine_activations.specs.Shows.{IsPrepared}

-- a procedure of an instance is one of valid code
pub record InCode (image : Image) (j n : ℕ) (p : CodeProcedure) : Type 0 where
  pub code : ModuleCode
  pub is : code_of image j ≡ Some code
  pub there : slice_get code.procedures n ≡ Some p
  pub valid : Valid code
  pub depths : HasDepths code

pub record IsValid (m : ModuleCode) : Type 0 where
  pub valid : Valid m
  pub depths : HasDepths m

module _ (image : Image) (layout : Layout) (prepared : IsPrepared image layout) where
  in_object : (n : ℕ) (o : Option Object) → slice_get image.modules n ≡ o → (m : ModuleCode) → option_map (λ (x : Object). x.code) o ≡ Some m → IsValid m
  in_object n None e m is = absurd (none-some m is)
  in_object n (Some o) e m is = subst (λ (c : ModuleCode). IsValid c) (same_Some o.code m is) (record { valid = prepared.valid n o e; depths = prepared.depths n o e })

  in_module : (m : ModuleCode) (n : Option ℕ) → option_and_then (code_in image) n ≡ Some m → IsValid m
  unfolding code_in
  in_module m None e = absurd (none-some m e)
  in_module m (Some n) e = in_object n (slice_get image.modules n) refl m e

  pub valid_code : (j : ℕ) (m : ModuleCode) → code_of image j ≡ Some m → IsValid m
  unfolding code_of
  valid_code j m e = in_module m (module_number image j) e

  in_code_of : (j n : ℕ) (p : CodeProcedure) (o : Option ModuleCode) → code_of image j ≡ o → option_and_then (λ (m : ModuleCode). slice_get m.procedures n) o ≡ Some p → InCode image j n p
  in_code_of j n p None e is = absurd (none-some p is)
  in_code_of j n p (Some m) e is = let v = valid_code j m e in record { code = m; is = e; there = is; valid = v.valid; depths = v.depths }

  pub in_code : (j n : ℕ) (p : CodeProcedure) → procedure_of image j n ≡ Some p → InCode image j n p
  unfolding procedure_of
  in_code j n p e = in_code_of j n p (code_of image j) refl e

-- an entry whose number begins at an offset
pub at_offset : (code : List CodeEntry) (i offset : ℕ) (e : CodeEntry) → slice_get code i ≡ Some e → Begins (spots code) i offset → e.at ≡ offset
at_offset code i offset e is b =
    let same : spot_of e ≡ b.spot = same_Some (spot_of e) b.spot (sym (spot_there code i e is) ∙ b.is) in
    ap (λ (s : Spot). s.at) same ∙ b.at

module _ (m : ModuleCode) (n : ℕ) (p : CodeProcedure) (there : slice_get m.procedures n ≡ Some p) where
  pub ordered : (i j : ℕ) → (InOrder p.code → i ≤ j) → i ≤ j
  ordered i j k = ∥∥₁_elim m.ranges le_prop (λ r. (
      let same = get_or_from_slice_get m.procedures n p p there in
      k (subst (λ (q : CodeProcedure). InOrder q.code) same (r.each_procedure n p (slice_get_within m.procedures n p there)).code)))

  no_later : (i j offset : ℕ) → Begins (spots p.code) i offset → Begins (spots p.code) j offset → i ≤ j
  no_later i j offset this that = ordered i j (λ o. let e = begins_once p.code i j offset blank o this that in omega (arith, e))

  -- no two entries begin at one offset
  pub same_number : (i j offset : ℕ) → Begins (spots p.code) i offset → Begins (spots p.code) j offset → i ≡ j
  same_number i j offset this that =
      let low = no_later i j offset this that in let high = no_later j i offset that this in omega (arith, low, high)

  -- the instruction at the offset at which an entry begins
  pub instruction_is : (i offset : ℕ) (e : CodeEntry) → slice_get p.code i ≡ Some e → Begins (spots p.code) i offset → instruction_at p.code offset ≡ Some e.instruction
  instruction_is i offset e is b =
      let s = starts p.code i offset e is (at_offset p.code i offset e is b) in
      let f = found p.code offset s.instruction s.is in
      let there : Begins (spots p.code) f.number offset = subst (λ o. Begins (spots p.code) f.number o) f.begins (begins_there p.code f.number f.entry f.is) in
      let same : f.number ≡ i = same_number f.number i offset there b in
      let one : f.entry ≡ e = same_Some f.entry e (sym f.is ∙ ap (λ k. slice_get p.code k) same ∙ is) in
      s.is ∙ ap Some (sym f.instruction ∙ ap (λ (x : CodeEntry). x.instruction) one)

  index_low : InOrder p.code → (i : ℕ) → i < length p.code → i ≤ (get_or p.code i blank).at
  index_low o zero less = omega arith
  index_low o (suc i) less =
      let before = at_less p.code i (suc i) blank o (omega arith) less in
      let lower = index_low o i (omega (arith, less)) in omega (arith, before, lower)

  -- a number of an entry is small
  pub number_small : (i offset : ℕ) → Begins (spots p.code) i offset → i < 4294967296
  number_small i offset b =
      let within = spot_within p.code i b.spot b.is in
      let l = ordered (i + 1) 4294967296 (λ o. let s = o.short i blank within in let low = index_low o i within in omega (arith, s, low)) in
      omega (arith, l)

  -- entries follow each other
  pub joined : (i : ℕ) (e f : CodeEntry) → slice_get p.code i ≡ Some e → slice_get p.code (i + 1) ≡ Some f → e.at + bytes_of e.instruction ≡ f.at
  joined i e f here next =
      let within = slice_get_within p.code (i + 1) f next in
      let both : InOrder p.code → e.at + bytes_of e.instruction ≡ f.at = λ (o : InOrder p.code). (
      let j = o.joined i e within in
      let one : get_or p.code i e ≡ e = get_or_from_slice_get p.code i e e here in
      let two : get_or p.code (i + 1) e ≡ f = get_or_from_slice_get p.code (i + 1) f e next in
      ap (λ (x : CodeEntry). x.at + bytes_of x.instruction) (sym one) ∙ j ∙ ap (λ (x : CodeEntry). x.at) two) in
      let low : e.at + bytes_of e.instruction ≤ f.at = ordered _ _ (λ o. let s = both o in omega (arith, s)) in
      let high : f.at ≤ e.at + bytes_of e.instruction = ordered _ _ (λ o. let s = both o in omega (arith, s)) in
      omega (arith, low, high)

-- the instruction at which an activation stands
pub stands_at : (image : Image) (layout : Layout) → IsPrepared image layout → (a : Active) (p : CodeProcedure) → procedure_of image a.instance a.procedure ≡ Some p
    → (i : ℕ) (e : CodeEntry) → slice_get p.code i ≡ Some e → Begins (spots p.code) i a.offset → instruction_under image a ≡ Some e.instruction
stands_at image layout prepared a p is i e there b =
    let c = in_code image layout prepared a.instance a.procedure p is in
    under_is image a p e.instruction is (instruction_is c.code a.procedure p c.there i a.offset e there b)
