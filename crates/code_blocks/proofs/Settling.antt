-- Where each instruction leaves the depth that stands beside those to which it leads, and to each one with words before it an earlier one
-- leads, the depths are settled and the rules on the operand stack hold.
use Rattle.std.proofs.Common.{◌≡◌, refl, sym, ap, ◌∙◌, subst, ℕ, zero, suc, ◌+◌, ◌<◌, ◌≤◌, ◌⊎◌, inl, inr, ⊎_elim, List, [], ◌∷◌, length, Bool, true, false, Option, Some, None, arith}
use Rattle.std.proofs.lemmas.Bool.{cases_lt, cases_eq, false≢true}
use Rattle.std.proofs.lemmas.Option.{slice_get_within, same_Some, none-some}
use Rattle.std.specs.Prelude.{slice_get, IsTrue}
use Rattle.code_forms.specs.declared.module_code.CodeEntry.{CodeEntry}
use Rattle.code_forms.specs.Depths.{depth_after, forward_target, backward_target, outward_target, is_return, Reaches, Leads, Settled, at_none, at_first, AgreesOnward, AgreesAt, Stays}
use Rattle.code_forms.specs.Instructions.{bytes_of}
use Rattle.code_forms.specs.Regions.{region_at}
use Rattle.code_forms.specs.Routine.{Routine, Spot, Begins, spot_of, spots, moves, goes_on}
use Rattle.code_forms.proofs.Depths.{settled_once}
use Rattle.code_forms.proofs.Leading.{spot_there}
use Rattle.code_forms.proofs.Ordered.{some_bytes, spots_length}
use Rattle.code_blocks.specs.Laws.{StackStands}
use Rattle.code_blocks.specs.Modules.{deepest}
use Rattle.code_blocks.proofs.Laying.{Run}
use Rattle.code_blocks.proofs.Lists.{get_there}

-- the instruction at an offset, if there is one, has this depth beside it
abbrev pub Deep : List CodeEntry → (offset depth : ℕ) → Type 0
Deep code o d = (k : ℕ) (e : CodeEntry) → slice_get code k ≡ Some e → e.at ≡ o → e.depth ≡ d

-- an earlier instruction leads to an offset
pub record WayTo (r : Routine) (code : List CodeEntry) (offset : ℕ) : Type 0 where
  pub number : ℕ
  pub entry : CodeEntry
  pub is : slice_get code number ≡ Some entry
  pub earlier : entry.at < offset
  pub way : ((entry.at + bytes_of entry.instruction ≡ offset) × IsTrue (goes_on r entry.instruction)) ⊎ (forward_target entry.instruction ≡ Some offset)

-- no words are there, or an instruction leads there
abbrev pub Led : Routine → List CodeEntry → (offset depth : ℕ) → Type 0
Led r code o d = (d ≡ 0) ⊎ WayTo r code o

-- the next instruction is there, in the same region, with the depth that this one leaves
pub record Onward (r : Routine) (code : List CodeEntry) (whole : ℕ) (e : CodeEntry) : Type 0 where
  pub more : e.at + bytes_of e.instruction < whole
  pub region : region_at r.phrases (e.at + bytes_of e.instruction) ≡ region_at r.phrases e.at
  pub deep : Deep code (e.at + bytes_of e.instruction) (depth_after r e.instruction e.depth)

-- an instruction of a code that ends at an offset finds the words that it takes, and leaves what is asked where it leads
pub record Flows (r : Routine) (code : List CodeEntry) (whole : ℕ) (e : CodeEntry) : Type 0 where
  pub enough : (moves r e.instruction).takes ≤ e.depth
  pub rests : IsTrue (goes_on r e.instruction) ⊎ (depth_after r e.instruction e.depth ≤ e.depth)
  pub onward : IsTrue (goes_on r e.instruction) → Onward r code whole e
  pub forward : (o : ℕ) → forward_target e.instruction ≡ Some o → Deep code o (depth_after r e.instruction e.depth)
  pub backward : (o : ℕ) → backward_target e.instruction ≡ Some o → Deep code o (depth_after r e.instruction e.depth)
  pub outward : (o : ℕ) → outward_target e.instruction ≡ Some o → Deep code o 0
  pub returns : IsTrue (is_return e.instruction) → e.depth ≡ 0
  pub led : Led r code e.at e.depth

-- Instructions in a run.

run_up : (a b : ℕ) (es : List CodeEntry) → Run a es b → a ≤ b
run_up a b [] r = omega (arith, r)
run_up a b (e ∷ es) r = omega (arith, run_up (a + bytes_of e.instruction) b es r.1)

run_get : (a b : ℕ) (es : List CodeEntry) → Run a es b → (k : ℕ) (e : CodeEntry) → slice_get es k ≡ Some e → (a ≤ e.at) × (e.at + bytes_of e.instruction ≤ b)
run_get a b [] r k e f = absurd (none-some e f)
run_get a b (x ∷ es) r zero e f =
    subst (λ (y : CodeEntry). (a ≤ y.at) × (y.at + bytes_of y.instruction ≤ b)) (same_Some x e f)
    (omega (arith, r.0), omega (arith, r.0, run_up (a + bytes_of x.instruction) b es r.1))
run_get a b (x ∷ es) r (suc k) e f =
    let h = run_get (a + bytes_of x.instruction) b es r.1 k e f in (omega (arith, h.0), h.1)

run_less : (a b : ℕ) (es : List CodeEntry) → Run a es b → (j k : ℕ) (e f : CodeEntry) → slice_get es j ≡ Some e → slice_get es k ≡ Some f → j < k
    → e.at + bytes_of e.instruction ≤ f.at
run_less a b [] r j k e f p q lt = absurd (none-some e p)
run_less a b (x ∷ es) r zero zero e f p q lt = absurd (omega (arith, lt))
run_less a b (x ∷ es) r zero (suc k) e f p q lt =
    subst (λ (y : CodeEntry). y.at + bytes_of y.instruction ≤ f.at) (same_Some x e p)
    (omega (arith, r.0, (run_get (a + bytes_of x.instruction) b es r.1 k f q).0))
run_less a b (x ∷ es) r (suc j) zero e f p q lt = absurd (omega (arith, lt))
run_less a b (x ∷ es) r (suc j) (suc k) e f p q lt = run_less (a + bytes_of x.instruction) b es r.1 j k e f p q (omega (arith, lt))

-- the one at a lower offset has the lower number
run_order : (a b : ℕ) (es : List CodeEntry) → Run a es b → (j k : ℕ) (e f : CodeEntry) → slice_get es j ≡ Some e → slice_get es k ≡ Some f → e.at < f.at → j < k
run_order a b es r j k e f p q lt = ⊎_elim
    (λ (x : j < k). x)
    (λ (x : k ≤ j). ⊎_elim
    (λ (y : k < j). absurd (omega (arith, lt, run_less a b es r k j f e q p y)))
    (λ (y : j ≤ k).
    let n : j ≡ k = omega (arith, x, y) in
    let same : e ≡ f = same_Some e f (sym p ∙ (ap (λ m. slice_get es m) n ∙ q)) in
    absurd (omega (arith, lt, ap (λ (z : CodeEntry). z.at) same)))
    (cases_lt k j))
    (cases_lt j k)

run_number : (a b : ℕ) (es : List CodeEntry) → Run a es b → (j k : ℕ) (e f : CodeEntry) → slice_get es j ≡ Some e → slice_get es k ≡ Some f → e.at ≡ f.at → j ≡ k
run_number a b es r j k e f p q same = ⊎_elim
    (λ (x : j < k). absurd (omega (arith, same, run_less a b es r j k e f p q x, some_bytes e.instruction)))
    (λ (x : k ≤ j). ⊎_elim
    (λ (y : k < j). absurd (omega (arith, same, run_less a b es r k j f e q p y, some_bytes f.instruction)))
    (λ (y : j ≤ k). omega (arith, x, y))
    (cases_lt k j))
    (cases_lt j k)

-- at an offset there is one
pub run_once : (a b : ℕ) (es : List CodeEntry) → Run a es b → (j k : ℕ) (e f : CodeEntry) → slice_get es j ≡ Some e → slice_get es k ≡ Some f → e.at ≡ f.at → e ≡ f
run_once a b es r j k e f p q same =
    same_Some e f (sym p ∙ (ap (λ m. slice_get es m) (run_number a b es r j k e f p q same) ∙ q))

-- the next one
run_next : (a b : ℕ) (es : List CodeEntry) → Run a es b → (k : ℕ) (e : CodeEntry) → slice_get es k ≡ Some e → e.at + bytes_of e.instruction < b
    → (f : CodeEntry) × (slice_get es (suc k) ≡ Some f) × (f.at ≡ e.at + bytes_of e.instruction)
run_next a b [] r k e p lt = absurd (none-some e p)
run_next a b (x ∷ []) r zero e p lt =
    let same = same_Some x e p in
    absurd (omega (arith, lt, r.0, r.1, ap (λ (z : CodeEntry). z.at) same, ap (λ (z : CodeEntry). bytes_of z.instruction) same))
run_next a b (x ∷ y ∷ es) r zero e p lt =
    let same = same_Some x e p in
    (y, refl, omega (arith, r.0, (r.1).0, ap (λ (z : CodeEntry). z.at) same, ap (λ (z : CodeEntry). bytes_of z.instruction) same))
run_next a b (x ∷ es) r (suc k) e p lt = run_next (a + bytes_of x.instruction) b es r.1 k e p lt

spot_entry : (code : List CodeEntry) (i : ℕ) (s : Spot) → slice_get (spots code) i ≡ Some s → (e : CodeEntry) × (slice_get code i ≡ Some e) × (spot_of e ≡ s)
spot_entry [] i s p = absurd (none-some s p)
spot_entry (x ∷ code) zero s p = (x, refl, same_Some (spot_of x) s p)
spot_entry (x ∷ code) (suc i) s p = spot_entry code i s p

deepest_get : (code : List CodeEntry) (k : ℕ) (e : CodeEntry) → slice_get code k ≡ Some e → e.depth ≤ deepest code
deepest_get [] k e p = absurd (none-some e p)
deepest_get (x ∷ code) zero e p = omega (arith, ap (λ (z : CodeEntry). z.depth) (same_Some x e p))
deepest_get (x ∷ code) (suc k) e p = omega (arith, deepest_get code k e p)

true_or_not : (b : Bool) → IsTrue b ⊎ (IsTrue b → ⊥)
true_or_not true = inl refl
true_or_not false = inr (λ x. false≢true x)

target_or_not : (o : Option ℕ) (k : ℕ) → (o ≡ Some k) ⊎ (o ≡ Some k → ⊥)
target_or_not None k = inr (λ e. none-some k e)
target_or_not (Some j) k = ⊎_elim (λ (y : j ≡ k). inl (ap Some y)) (λ (n : j ≡ k → ⊥). inr (λ e. n (same_Some j k e))) (cases_eq j k)

module _ (r : Routine) (code : List CodeEntry) (whole : ℕ) (same : r.code ≡ spots code) (room : r.room ≡ deepest code) (run : Run 0 code whole)
    (all : (k : ℕ) (e : CodeEntry) → slice_get code k ≡ Some e → Flows r code whole e) where
  spot_here : (i : ℕ) (e : CodeEntry) → slice_get code i ≡ Some e → slice_get r.code i ≡ Some (spot_of e)
  spot_here i e p = ap (λ (c : List Spot). slice_get c i) same ∙ spot_there code i e p

  entry_here : (i : ℕ) (s : Spot) → slice_get r.code i ≡ Some s → (e : CodeEntry) × (slice_get code i ≡ Some e) × (spot_of e ≡ s)
  entry_here i s p = spot_entry code i s (sym (ap (λ (c : List Spot). slice_get c i) same) ∙ p)

  -- it begins where its entry says
  begun : (i o : ℕ) (e : CodeEntry) → slice_get code i ≡ Some e → Begins r.code i o → e.at ≡ o
  begun i o e p b = ap (λ (s : Spot). s.at) (same_Some (spot_of e) b.spot (sym (spot_here i e p) ∙ b.is)) ∙ b.at

  -- the instruction that leads
  leading : (i j : ℕ) (e : CodeEntry) → slice_get code i ≡ Some e → (l : Leads r i j)
      → ((j ≡ i + 1) × IsTrue (goes_on r e.instruction)) ⊎ Reaches r.code (forward_target e.instruction) j
  leading i j e p l =
      subst (λ (s : Spot). ((j ≡ i + 1) × IsTrue (goes_on r s.instruction)) ⊎ Reaches r.code (forward_target s.instruction) j)
      (same_Some l.spot (spot_of e) (sym l.is ∙ spot_here i e p)) l.way

  -- where it leads there is one, with the depth that it leaves
  pub record LedTo (i j : ℕ) (e : CodeEntry) : Type 0 where
    pub entry : CodeEntry
    pub is : slice_get code j ≡ Some entry
    pub depth : entry.depth ≡ depth_after r e.instruction e.depth

  led_to : (i j : ℕ) (e : CodeEntry) → slice_get code i ≡ Some e → Leads r i j → LedTo i j e
  led_to i j e p l = ⊎_elim
      (λ (x : (j ≡ i + 1) × IsTrue (goes_on r e.instruction)).
      let on = (all i e p).onward x.1 in
      let n = run_next 0 whole code run i e p on.more in
      let there : slice_get code j ≡ Some n.0 = ap (λ m. slice_get code m) {x = j} {y = suc i} (omega (arith, x.0)) ∙ n.1 in
      record { entry = n.0; is = there; depth = on.deep j n.0 there n.2 })
      (λ (x : Reaches r.code (forward_target e.instruction) j).
      let n = entry_here j x.begins.spot x.begins.is in
      record { entry = n.0; is = n.1; depth = (all i e p).forward x.offset x.is j n.0 n.1 (begun j x.offset n.0 n.1 x.begins) })
      (leading i j e p l)

  leads_or_not : (j i : ℕ) (e f : CodeEntry) → slice_get code j ≡ Some e → slice_get code i ≡ Some f → j < i → Leads r j i ⊎ (Leads r j i → ⊥)
  leads_or_not j i e f p q lt = ⊎_elim
      (λ (t : forward_target e.instruction ≡ Some f.at).
      inl (record {
        spot = spot_of e;
        is = spot_here j e p;
        later = lt;
        way = inr (record { offset = f.at; is = t; begins = record { spot = spot_of f; is = spot_here i f q; at = refl } });
      }))
      (λ (t : forward_target e.instruction ≡ Some f.at → ⊥). ⊎_elim
      (λ (n : i ≡ j + 1). ⊎_elim
      (λ (g : IsTrue (goes_on r e.instruction)). inl (record { spot = spot_of e; is = spot_here j e p; later = lt; way = inl (n, g) }))
      (λ (g : IsTrue (goes_on r e.instruction) → ⊥).
      inr (λ l. ⊎_elim (λ (x : (i ≡ j + 1) × IsTrue (goes_on r e.instruction)). g x.1) (λ (x : Reaches r.code (forward_target e.instruction) i). elsewhere t x)
      (leading j i e p l)))
      (true_or_not (goes_on r e.instruction)))
      (λ (n : i ≡ j + 1 → ⊥).
      inr (λ l. ⊎_elim (λ (x : (i ≡ j + 1) × IsTrue (goes_on r e.instruction)). n x.0) (λ (x : Reaches r.code (forward_target e.instruction) i). elsewhere t x)
      (leading j i e p l)))
      (cases_eq i (j + 1)))
      (target_or_not (forward_target e.instruction) f.at)
    where
      elsewhere : (forward_target e.instruction ≡ Some f.at → ⊥) → Reaches r.code (forward_target e.instruction) i → ⊥
      elsewhere t x = t (x.is ∙ ap Some (sym (begun i x.offset f q x.begins)))

  -- the first that leads to an instruction
  record First (i : ℕ) : Type 0 where
    number : ℕ
    leads : Leads r number i
    least : (k : ℕ) → k < number → Leads r k i → ⊥

  first : (i : ℕ) (f : CodeEntry) → slice_get code i ≡ Some f → (n : ℕ) → n ≤ i → ((j : ℕ) → j < n → Leads r j i → ⊥) ⊎ First i
  first i f q zero le = inl (λ j lt l. absurd (omega (arith, lt)))
  first i f q (suc n) le = ⊎_elim
      (λ (none : (j : ℕ) → j < n → Leads r j i → ⊥).
      let e = get_there code n (omega (arith, le, slice_get_within code i f q)) in
      ⊎_elim
      (λ (l : Leads r n i). inr (record { number = n; leads = l; least = none }))
      (λ (never : Leads r n i → ⊥).
      inl (λ j lt l. ⊎_elim
      (λ (x : j < n). none j x l)
      (λ (x : n ≤ j). never (subst (λ m. Leads r m i) {x = j} {y = n} (omega (arith, x, lt)) l))
      (cases_lt j n)))
      (leads_or_not n i e.0 f e.1 q (omega (arith, le))))
      (λ (x : First i). inr x)
      (first i f q n (omega (arith, le)))

  way_leads : (i : ℕ) (f : CodeEntry) → slice_get code i ≡ Some f → (w : WayTo r code f.at) → Leads r w.number i
  way_leads i f q w =
      let lt = run_order 0 whole code run w.number i w.entry f w.is q w.earlier in
      record {
        spot = spot_of w.entry;
        is = spot_here w.number w.entry w.is;
        later = lt;
        way = ⊎_elim
            (λ (x : (w.entry.at + bytes_of w.entry.instruction ≡ f.at) × IsTrue (goes_on r w.entry.instruction)).
            let n = run_next 0 whole code run w.number w.entry w.is (omega (arith, x.0, (run_get 0 whole code run i f q).1, some_bytes f.instruction)) in
            let number : suc w.number ≡ i = run_number 0 whole code run (suc w.number) i n.0 f n.1 q (n.2 ∙ x.0) in
            inl (omega (arith, number), x.1))
            (λ (x : forward_target w.entry.instruction ≡ Some f.at).
            inr (record { offset = f.at; is = x; begins = record { spot = spot_of f; is = spot_here i f q; at = refl } }))
            w.way;
      }

  -- the depth beside each instruction is settled
  settles : (n i : ℕ) (f : CodeEntry) → i < n → slice_get code i ≡ Some f → Settled r i f.depth
  settles zero i f lt q = absurd (omega (arith, lt))
  settles (suc n) i f lt q = ⊎_elim
      (λ (none : (j : ℕ) → j < i → Leads r j i → ⊥).
      ⊎_elim
      (λ (e : f.depth ≡ 0). subst (λ d. Settled r i d) (sym e) (at_none i (λ j l. none j l.later l)))
      (λ (w : WayTo r code f.at). let l = way_leads i f q w in absurd (none w.number l.later l))
      (all i f q).led)
      (λ (x : First i).
      let e = entry_here x.number (x.leads).spot (x.leads).is in
      let to = led_to x.number i e.0 e.1 x.leads in
      let same_one : to.entry ≡ f = same_Some to.entry f (sym to.is ∙ q) in
      let depth : depth_after r (e.0).instruction (e.0).depth ≡ f.depth = sym to.depth ∙ ap (λ (y : CodeEntry). y.depth) same_one in
      let before = (x.leads).later in
      subst (λ d. Settled r i d) depth
      (at_first i x.number (e.0).depth (spot_of e.0) (spot_here x.number e.0 e.1) x.leads x.least
      (settles n x.number e.0 (omega (arith, before, lt)) e.1)))
      (first i f q i (omega arith))

  settled_here : (i : ℕ) (f : CodeEntry) → slice_get code i ≡ Some f → Settled r i f.depth
  settled_here i f q = settles (suc i) i f (omega arith) q

  agrees_at : (target : Option ℕ) (depth : ℕ) → ((o : ℕ) → target ≡ Some o → Deep code o depth) → AgreesAt r target depth
  agrees_at target depth deep j settled x s =
      let f = entry_here j x.begins.spot x.begins.is in
      sym (deep x.offset x.is j f.0 f.1 (begun j x.offset f.0 f.1 x.begins)) ∙ settled_once r j (f.0).depth settled (settled_here j f.0 f.1) s

  agrees_onward : (i : ℕ) (e : CodeEntry) → slice_get code i ≡ Some e → AgreesOnward r i (depth_after r e.instruction e.depth)
  agrees_onward i e p j settled l s =
      let to = led_to i j e p l in
      sym to.depth ∙ settled_once r j (to.entry).depth settled (settled_here j to.entry to.is) s

  stays : (i : ℕ) (e : CodeEntry) → slice_get code i ≡ Some e → Stays r i (spot_of e)
  stays i e p g =
      let on = (all i e p).onward g in
      let n = run_next 0 whole code run i e p on.more in
      (omega (arith, slice_get_within code (suc i) n.0 n.1, ap (λ (c : List Spot). length c) same, spots_length code), on.region)

  has_room : (i : ℕ) (e : CodeEntry) → slice_get code i ≡ Some e → depth_after r e.instruction e.depth ≤ r.room
  has_room i e p = ⊎_elim
      (λ (g : IsTrue (goes_on r e.instruction)).
      let on = (all i e p).onward g in
      let n = run_next 0 whole code run i e p on.more in
      omega (arith, on.deep (suc i) n.0 n.1 n.2, deepest_get code (suc i) n.0 n.1, room))
      (λ (le : depth_after r e.instruction e.depth ≤ e.depth). omega (arith, le, deepest_get code i e p, room))
      (all i e p).rests

  pub stack_stands : StackStands r code
  stack_stands = record {
    settled = settled_here;
    right = λ i e p. record {
      fits = record { enough = (all i e p).enough; room = has_room i e p };
      returns = (all i e p).returns;
      stays = stays i e p;
      onward = agrees_onward i e p;
      backward = agrees_at (backward_target e.instruction) (depth_after r e.instruction e.depth) (all i e p).backward;
      outward = agrees_at (outward_target e.instruction) 0 (all i e p).outward;
    };
  }
