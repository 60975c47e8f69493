-- The instructions of each procedure stand in order, within 32 bits.
use Rattle.std.proofs.Common.{◌≡◌, subst, ℕ, zero, suc, ◌+◌, ◌^◌, ◌<◌, ◌≤◌, List, [], ◌∷◌, length, map, All, slice_index_or, arith}
use Rattle.std.specs.List.{HoldsAt}
use Rattle.mesa_types.specs.Typed.{Procedure, Module}
use Rattle.code_forms.specs.declared.module_code.CodeEntry.{CodeEntry}
use Rattle.code_forms.specs.declared.module_code.CodeProcedure.{CodeProcedure}
use Rattle.code_forms.specs.Instructions.{bytes_of}
use Rattle.code_forms.specs.Ranges.{InOrder}
use Rattle.code_rules.specs.Modules.{procedures_of}
use Rattle.code_blocks.specs.Laws.{ModulesAreInOrder}
use Rattle.code_blocks.specs.Modules.{body_block, procedure_code}
use Rattle.code_blocks.specs.Regions.{written}
use Rattle.code_blocks.specs.Weights.{entries_bytes, procedure_bytes, procedures_bytes}
use Rattle.code_blocks.proofs.Counting.{all_finished}
use Rattle.code_blocks.proofs.Laying.{Run}
use Rattle.code_blocks.proofs.ModuleWeights.{modules_are_short}

-- the first of two instructions ends where the second begins
adjacent : (a b : ℕ) (es : List CodeEntry) → Run a es b → (k : ℕ) (d : CodeEntry) → suc k < length es
    → (slice_index_or es k d).at + bytes_of (slice_index_or es k d).instruction ≡ (slice_index_or es (suc k) d).at
adjacent a b [] r k d lt = absurd (omega (arith, lt))
adjacent a b (e ∷ []) r k d lt = absurd (omega (arith, lt))
adjacent a b (e ∷ f ∷ es) r zero d lt = omega (arith, r.0, (r.1).0)
adjacent a b (e ∷ f ∷ es) r (suc k) d lt = adjacent (a + bytes_of e.instruction) b (f ∷ es) r.1 k d (omega (arith, lt))

run_bytes : (a b : ℕ) (es : List CodeEntry) → Run a es b → b ≡ a + entries_bytes es
run_bytes a b [] r = omega (arith, r)
run_bytes a b (e ∷ es) r = omega (arith, run_bytes (a + bytes_of e.instruction) b es r.1)

ends_within : (a b : ℕ) (es : List CodeEntry) → Run a es b → (k : ℕ) (d : CodeEntry) → k < length es
    → (slice_index_or es k d).at + bytes_of (slice_index_or es k d).instruction ≤ b
ends_within a b [] r k d lt = absurd (omega (arith, lt))
ends_within a b (e ∷ es) r zero d lt = omega (arith, r.0, run_bytes (a + bytes_of e.instruction) b es r.1)
ends_within a b (e ∷ es) r (suc k) d lt = ends_within (a + bytes_of e.instruction) b es r.1 k d (omega (arith, lt))

begins : (a b : ℕ) (es : List CodeEntry) → Run a es b → a < b → (0 < length es) × HoldsAt (λ e. e.at ≡ a) es 0
begins a b [] r lt = absurd (omega (arith, r, lt))
begins a b (e ∷ es) r lt = (omega arith, λ d. r.0)

in_order : (b : ℕ) (es : List CodeEntry) → Run 0 es b → 0 < b → b < 2 ^ 32 → InOrder es
in_order b es r lt short =
    let x = begins 0 b es r lt in
    record {
      some = x.0;
      first = x.1;
      joined = λ k d less.
          let next : suc k ≡ k + 1 = omega arith in
          subst (λ n. (slice_index_or es k d).at + bytes_of (slice_index_or es k d).instruction ≡ (slice_index_or es n d).at) next
          (adjacent 0 b es r k d (omega (arith, less)));
      short = λ k d less. omega (arith, ends_within 0 b es r k d less, short);
    }

procedure_in_order : (m : Module) (p : Procedure) → procedure_bytes (procedure_code m p) < 2 ^ 32 → InOrder (procedure_code m p).code
procedure_in_order m p short =
    let f = all_finished (body_block m p) in
    let w = written (body_block m p) in
    in_order w.end w.code (f.kept).run (omega (arith, (f.kept).whole)) (omega (arith, short, run_bytes 0 w.end w.code (f.kept).run))

all_in_order : (m : Module) (ps : List Procedure) → procedures_bytes (map (procedure_code m) ps) < 2 ^ 32
    → All (λ (c : CodeProcedure). InOrder c.code) (map (procedure_code m) ps)
all_in_order m [] short k d lt = absurd (omega (arith, lt))
all_in_order m (p ∷ ps) short zero d lt = procedure_in_order m p (omega (arith, short))
all_in_order m (p ∷ ps) short (suc k) d lt = all_in_order m ps (omega (arith, short)) k d (omega (arith, lt))

pub modules_are_in_order : ModulesAreInOrder
modules_are_in_order m s few = all_in_order m (procedures_of m) (omega (arith, modules_are_short m s, few))
