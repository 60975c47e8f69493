-- Entries lie one behind the other, and so each is found at its offset.
use Rattle.std.proofs.Common.{◌≡◌, refl, sym, ap, ◌∙◌, subst, ℕ, ◌+◌, ◌≤◌, List, [], ◌∷◌, ◌++◌, append_assoc, Bool, true, false, nat_eq, if◌then◌else◌, Some, eq-eqb, ne_eqb, arith}
use Rattle.code_forms.specs.declared.instruction.Instruction.{Instruction}
use Rattle.code_forms.specs.declared.instruction.Instruction.TheVariants as i
use Rattle.code_forms.specs.declared.module_code.CodeEntry.{CodeEntry}
use Rattle.code_forms.specs.Instructions.{bytes_of}
use Rattle.code_forms.specs.Depths.{depth_after}
use Rattle.code_forms.proofs.Ordered.{some_bytes}
use Rattle.code_rules.specs.Reading.{entry_at}
use Rattle.code_blocks.specs.Blocks.{Block, Does, Calls, Both, Ends, Out, Goes, Rounds, Enables, ArmBlocks, NoArmBlock, AndArmBlock}
use Rattle.code_blocks.specs.Own.{alone, bytes_in}
use Rattle.code_blocks.specs.Sizes.{size, depth_behind}
use Rattle.code_blocks.specs.Writing.{Env, in_part, end_at, offset_of, entry, entries, block_code, region, arms_code, arms_size}
use Rattle.code_blocks.proofs.Bytes.{leap_bytes, goes_bytes}
use Rattle.code_blocks.proofs.Lying.{Has}

-- the first begins at an offset, each other where the one before it ends, and the last ends at another offset
abbrev pub Run : (a : ℕ) → List CodeEntry → (b : ℕ) → Type 0
Run a [] b = a ≡ b
Run a (e ∷ es) b = (e.at ≡ a) × Run (a + bytes_of e.instruction) es b

pub run_both : (a m b : ℕ) (es fs : List CodeEntry) → Run a es m → Run m fs b → Run a (es ++ fs) b
run_both a m b [] fs r q = subst (λ n. Run n fs b) (sym r) q
run_both a m b (e ∷ es) fs r q = (r.0, run_both (a + bytes_of e.instruction) m b es fs r.1 q)

pub run_to : (a b c : ℕ) (es : List CodeEntry) → Run a es b → b ≡ c → Run a es c
run_to a b c es r e = subst (λ n. Run a es n) e r

own_run : (is : List Instruction) (a d : ℕ) → Run a (entries is a d) (a + bytes_in is)
own_run [] a d = omega arith
own_run (x ∷ is) a d = (
  refl,
  run_to (a + bytes_of x) (a + bytes_of x + bytes_in is) (a + bytes_in (x ∷ is)) (entries is (a + bytes_of x) (depth_after alone x d))
      (own_run is (a + bytes_of x) (depth_after alone x d)) (omega arith),
)

pub block_run : (b : Block) (E : Env) (a d : ℕ) → Run a (block_code b E a d) (a + size b)
block_run (Does is) E a d = own_run is a d
block_run (Calls call takes puts arms) E a d = (refl, refl)
block_run (Both b c) E a d =
    let n = depth_behind b d in
    run_to a (a + size b + size c) (a + size (Both b c)) (block_code (Both b c) E a d)
    (run_both a (a + size b) (a + size b + size c) (block_code b E a d) (block_code c E (a + size b) n) (block_run b E a d) (block_run c E (a + size b) n))
    (omega arith)
block_run (Ends mark b) E a d = block_run b (in_part mark a (a + size b) E) a d
block_run (Out leap part) E a d = (refl, ap (λ n. a + n) (leap_bytes leap (end_at E.ends part)))
block_run (Goes arms p) E a d = (refl, ap (λ n. a + n) (goes_bytes arms p (offset_of (E.points p))))
block_run (Rounds b) E a d =
    run_both a (a + size b) (a + size (Rounds b)) (block_code b E a d) (entry (a + size b) (depth_behind b d) (i.JumpBack a) ∷ []) (block_run b E a d)
    (refl, omega arith)
block_run (Enables arms b) E a d = block_run b E a d

pub arms_run : (arms : ArmBlocks) (E : Env) (a : ℕ) → Run a (arms_code arms E a) (a + arms_size arms)
arms_run NoArmBlock E a = omega arith
arms_run (AndArmBlock labels slot words b arms) E a =
    let m = a + size (region b) in
    run_to a (m + arms_size arms) (a + arms_size (AndArmBlock labels slot words b arms)) (arms_code (AndArmBlock labels slot words b arms) E a)
    (run_both a m (m + arms_size arms) (block_code (region b) E a 0) (arms_code arms E m) (block_run (region b) E a 0) (arms_run arms E m)) (omega arith)

in_order : (a m : ℕ) (es : List CodeEntry) → Run a es m → a ≤ m
in_order a m [] r = omega (arith, r)
in_order a m (e ∷ es) r = omega (arith, in_order (a + bytes_of e.instruction) m es r.1)

-- an entry that ends before an offset is not the one there
passed : (a m o : ℕ) (es fs : List CodeEntry) → Run a es m → m ≤ o → entry_at (es ++ fs) o ≡ entry_at fs o
passed a m o [] fs r le = refl
passed a m o (e ∷ es) fs r le =
    ap (λ b. if b then Some e else entry_at (es ++ fs) o) (ne_eqb e.at o (λ same. omega
    (arith, same, r.0, le, some_bytes e.instruction, in_order (a + bytes_of e.instruction) m es r.1)))
    ∙ passed (a + bytes_of e.instruction) m o es fs r.1 le

-- entries in a run are found
pub found_there : (before es behind : List CodeEntry) (a m b : ℕ) → Run a before m → Run m es b → Has (before ++ (es ++ behind)) m es
found_there before [] behind a m b r q = tt
found_there before (e ∷ es) behind a m b r q =
    let next = m + bytes_of e.instruction in
    let longer = run_both a m next before (e ∷ []) r (q.0, refl) in (
      passed a m m before (e ∷ (es ++ behind)) r (omega arith) ∙ ap (λ x. if x then Some e else entry_at (es ++ behind) m) (eq-eqb e.at m q.0),
      subst (λ all. Has all next es) (append_assoc before (e ∷ []) (es ++ behind)) (found_there (before ++ e ∷ []) es behind a next b longer q.1),
    )

-- what is found stays found
still_found : (es fs : List CodeEntry) (o : ℕ) (e : CodeEntry) → entry_at es o ≡ Some e → entry_at (es ++ fs) o ≡ Some e
still_found [] fs o e h = cc
still_found (x ∷ es) fs o e h = go (still_found es fs o e) (nat_eq x.at o) h
  where
    go : (entry_at es o ≡ Some e → entry_at (es ++ fs) o ≡ Some e) → (b : Bool) → (if b then Some x else entry_at es o) ≡ Some e
        → (if b then Some x else entry_at (es ++ fs) o) ≡ Some e
    go f true h = h
    go f false h = f h

pub has_still : (all more : List CodeEntry) (a : ℕ) (es : List CodeEntry) → Has all a es → Has (all ++ more) a es
has_still all more a [] h = tt
has_still all more a (e ∷ es) h = (still_found all more a e h.0, has_still all more (a + bytes_of e.instruction) es h.1)
