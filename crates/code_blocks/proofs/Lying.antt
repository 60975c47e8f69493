-- The code of a block as it lies in a procedure, with the phrases around.
use Rattle.std.proofs.Common.{◌≡◌, refl, sym, ap, ap₂, ◌∙◌, subst, ℕ, ◌+◌, ◌<◌, ◌≤◌, List, [], ◌∷◌, ◌++◌, length, Some, arith}
use Rattle.mesa_types.specs.Typed.{Point}
use Rattle.code_forms.specs.declared.instruction.Instruction.{Instruction}
use Rattle.code_forms.specs.declared.module_code.CodeEntry.{CodeEntry}
use Rattle.code_forms.specs.Instructions.{bytes_of}
use Rattle.code_forms.specs.Routine.{Routine}
use Rattle.code_forms.proofs.Ordered.{some_bytes}
use Rattle.code_rules.specs.Laws.{behind_all}
use Rattle.code_rules.specs.Reading.{Coded, Place, Own, no_more, one_more, read_of, entry_at, phrases_around, behind}
use Rattle.code_rules.proofs.Whole.{own_code_joins}
use Rattle.code_blocks.specs.Blocks.{Mark, Leap, Block, Does, Calls, Both, Ends, Out, Goes, Rounds, Enables, ArmBlocks, NoArmBlock, AndArmBlock}
use Rattle.code_blocks.specs.Own.{bytes_in, left_of, AreOwn}
use Rattle.code_blocks.specs.Sizes.{leap_to, goes_to, size, depth_behind}
use Rattle.code_blocks.specs.Weights.{entries_bytes}
use Rattle.code_blocks.specs.Writing.{Env, in_part, end_at, offset_of, entry, entries, block_code, Pending, block_phrases, own_phrase, region}
use Rattle.code_blocks.proofs.Around.{Inside, inside_both, inside_wider, inside_two, inside_own, inside_unless, AreWritten, Spot, narrow, split, bare}
use Rattle.code_blocks.proofs.Bytes.{leap_bytes, goes_bytes, block_bytes}
use Rattle.code_blocks.proofs.Own.{alone_same, AreFixed, own_fixed}

-- the phrases of a block lie in it
pub inside_block : (b : Block) (E : Env) (a : ℕ) → Inside a (a + size b) (block_phrases b E a)
inside_block (Does is) E a = tt
inside_block (Calls call takes puts arms) E a = inside_own arms E a (a + bytes_of call) (omega (arith, some_bytes call))
inside_block (Both b c) E a =
    inside_two a (a + size b) (a + size b) (a + (size b + size c)) (block_phrases b E a) (block_phrases c E (a + size b)) (inside_block b E a)
    (inside_wider (a + size b) (a + size b + size c) (a + size b) (a + (size b + size c)) (block_phrases c E (a + size b)) (omega arith) (omega arith)
    (inside_block c E (a + size b)))
    (omega arith) (omega arith)
inside_block (Ends mark b) E a = inside_block b (in_part mark a (a + size b) E) a
inside_block (Out leap part) E a = tt
inside_block (Goes arms p) E a = tt
inside_block (Rounds b) E a =
    inside_wider a (a + size b) a (a + (size b + 5)) (block_phrases b E a) (omega arith) (omega arith) (inside_block b E a)
inside_block (Enables arms b) E a =
    inside_unless (size b) a (a + size b) (own_phrase arms E a (a + size b) ++ block_phrases b E a)
    (λ m e. inside_both a (a + size b) (own_phrase arms E a (a + size b)) (block_phrases b E a)
    (inside_own arms E a (a + size b) (omega (arith, e))) (inside_block b E a))

-- these entries are found, the first at an offset and each other where the one before it ends
abbrev pub Has : List CodeEntry → ℕ → List CodeEntry → Type 0
Has all a [] = Unit {0}
Has all a (e ∷ es) = (entry_at all a ≡ Some e) × Has all (a + bytes_of e.instruction) es

pub has_parts : (all : List CodeEntry) (a : ℕ) (es fs : List CodeEntry) (n : ℕ) → entries_bytes es ≡ n → Has all a (es ++ fs) → Has all a es × Has all (a + n) fs
has_parts all a [] fs n e h = (tt, subst (λ m. Has all m fs) {x = a} {y = a + n} (omega (arith, e)) h)
has_parts all a (x ∷ es) fs n e h =
    let r = has_parts all (a + bytes_of x.instruction) es fs (entries_bytes es) refl h.1 in
    ((h.0, r.0), subst (λ m. Has all m fs) {x = a + bytes_of x.instruction + entries_bytes es} {y = a + n} (omega (arith, e)) r.1)

-- a procedure with its code, the phrases that were found in it, and that their arms are written
pub record Laid : Type 0 where
  pub names : Coded
  pub routine : Routine
  pub entries : List CodeEntry
  pub found : List Pending
  pub written : AreWritten routine.phrases found

abbrev pub laid : Laid → Coded
laid S = record (S.names) { routine = S.routine; entries = S.entries }

module _ (S : Laid) where
  abbrev pub P : Coded
  P = laid S

  abbrev found : List Pending
  found = S.found

  abbrev written : AreWritten P.routine.phrases found
  written = S.written

  -- a block lies at an offset, with these phrases around and so many words on the operand stack
  pub record Lies (b : Block) (E : Env) (around : List ℕ) (depth at : ℕ) : Type 0 where
    pub has : Has P.entries at (block_code b E at depth)
    pub number : ℕ
    pub spot : Spot P.routine.phrases found written (block_phrases b E at) number at (at + size b) around

  pub both_lie : (b c : Block) (E : Env) (around : List ℕ) (d a : ℕ) → Lies (Both b c) E around d a
      → Lies b E around d a × Lies c E around (depth_behind b d) (a + size b)
  both_lie b c E around d a h =
      let has = has_parts P.entries a (block_code b E a d) (block_code c E (a + size b) (depth_behind b d)) (size b) (block_bytes b E a d) h.has in
      let ps = block_phrases b E a in
      let qs = block_phrases c E (a + size b) in
      let m = a + size b in
      let s = split P.routine.phrases found written ps qs h.number a m (a + (size b + size c)) around h.spot (inside_block b E a)
      (inside_wider m (m + size c) m (a + (size b + size c)) qs (omega arith) (omega arith) (inside_block c E m)) (omega arith) (omega arith) in (
        record { has = has.0; number = h.number; spot = s.0 },
        record {
          has = has.1;
          number = h.number + length ps;
          spot = narrow P.routine.phrases found written qs (h.number + length ps) m (a + (size b + size c)) m (m + size c) around s.1 (omega arith) (omega arith);
        },
      )

  pub part_lies : (mark : Mark) (b : Block) (E : Env) (around : List ℕ) (d a : ℕ) → Lies (Ends mark b) E around d a
      → Lies b (in_part mark a (a + size b) E) around d a
  part_lies mark b E around d a h = record { has = h.has; number = h.number; spot = h.spot }

  -- own code stands where its entries are found

  own_stands : (w : Place) (is : List Instruction) (a b : ℕ) → AreOwn is → Has P.entries a (entries is a w.depth)
      → ((c : ℕ) → a ≤ c → c < b → phrases_around P.routine.phrases c ≡ w.around) → b ≡ a + bytes_in is → Own P w is a b
  own_stands w [] a b o h f e = subst (λ z. Own P w [] a z) {x = a} {y = b} (omega (arith, e)) no_more
  own_stands w (i ∷ is) a b o h f e =
      one_more (ap₂ read_of h.0 (f a (omega arith) (omega (arith, e, some_bytes i))))
      (own_stands (behind P i w) is (a + bytes_of i) b o.1
      (subst (λ n. Has P.entries (a + bytes_of i) (entries is (a + bytes_of i) n)) (alone_same P.routine i w.depth (own_fixed i o.0)) h.1)
      (λ c x y. f c (omega (arith, x)) y)
      (omega (arith, e)))

  pub own_lies : (w : Place) (is : List Instruction) (E : Env) (a b : ℕ) → AreOwn is → Lies (Does is) E w.around w.depth a → b ≡ a + bytes_in is
      → Own P w is a b
  own_lies w is E a b o h e =
      own_stands w is a b o h.has
      (λ c x y. bare P.routine.phrases found written h.number a (a + bytes_in is) c w.around h.spot x (omega (arith, e, y))) e

  -- one instruction, whatever it does

  pub one_stands : (w : Place) (i : Instruction) (a b : ℕ) → entry_at P.entries a ≡ Some (entry a w.depth i)
      → phrases_around P.routine.phrases a ≡ w.around → b ≡ a + bytes_of i → Own P w (i ∷ []) a b
  one_stands w i a b h f e =
      one_more (ap₂ read_of h f) (subst (λ z. Own P (behind P i w) [] (a + bytes_of i) z) {x = a + bytes_of i} {y = b} (sym e) no_more)

  pub out_lies : (w : Place) (l : Leap) (part target : ℕ) (E : Env) (a b : ℕ) → end_at E.ends part ≡ target → Lies (Out l part) E w.around w.depth a
      → b ≡ a + size (Out l part) → Own P w (leap_to l target ∷ []) a b
  out_lies w l part target E a b is h e =
      one_stands w (leap_to l target) a b ((h.has).0 ∙ ap (λ t. Some (entry a w.depth (leap_to l t))) is)
      (bare P.routine.phrases found written h.number a (a + size (Out l part)) a w.around h.spot (omega arith) (omega (arith, some_bytes (leap_to l 0))))
      (e ∙ ap (λ n. a + n) (sym (leap_bytes l target)))

  pub goes_lies : (w : Place) (arms : ℕ) (p : Point) (E : Env) (a b : ℕ) → Lies (Goes arms p) E w.around w.depth a → b ≡ a + size (Goes arms p)
      → Own P w (goes_to arms p (offset_of (E.points p)) ∷ []) a b
  goes_lies w arms p E a b h e =
      one_stands w (goes_to arms p (offset_of (E.points p))) a b (h.has).0
      (bare P.routine.phrases found written h.number a (a + size (Goes arms p)) a w.around h.spot (omega arith) (omega (arith, some_bytes (goes_to arms p 0))))
      (e ∙ ap (λ n. a + n) (sym (goes_bytes arms p (offset_of (E.points p)))))

  -- own code behind own code

  behind_left : (is : List Instruction) (w : Place) → AreFixed is → behind_all P is w ≡ record w { depth = left_of is w.depth }
  behind_left [] w h = refl
  behind_left (i ∷ is) w h =
      behind_left is (behind P i w) h.1 ∙ ap (λ n. record w { depth = left_of is n }) (sym (alone_same P.routine i w.depth h.0))

  pub own_join : (w : Place) (is js : List Instruction) (a c b : ℕ) → AreFixed is → Own P w is a c
      → Own P (record w { depth = left_of is w.depth }) js c b → Own P w (is ++ js) a b
  own_join w is js a c b o p q = own_code_joins.joins P w is js a c b p (subst (λ v. Own P v js c b) (sym (behind_left is w o)) q)

  -- the regions of arms lie one behind the other
  abbrev pub ArmsLie : ArmBlocks → Env → (at : ℕ) → Type 0
  ArmsLie NoArmBlock E at = Unit {0}
  ArmsLie (AndArmBlock labels slot words b arms) E at = Lies (region b) E [] 0 at × ArmsLie arms E (at + size (region b))
