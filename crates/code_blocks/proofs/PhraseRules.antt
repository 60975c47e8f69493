-- The phrases of each procedure are right, and the regions of their arms fill the code.
use Rattle.std.proofs.Common.{◌≡◌, refl, sym, subst, ℕ, zero, suc, ◌+◌, ◌-◌, ◌<◌, ◌≤◌, ⊎_elim, List, [], ◌∷◌, ◌++◌, length, get_or, take, map, All, Option, Some, None, slice_index_or, arith}
use Rattle.std.proofs.lemmas.List.{get_or-take, length-take-le}
use Rattle.std.proofs.lemmas.Option.{slice_get-get_or, slice_get_within}
use Rattle.std.specs.List.{AllAdjacentBelow}
use Rattle.std.specs.Prelude.{slice_get}
use Rattle.mesa_types.specs.Typed.{Procedure, Module}
use Rattle.code_forms.specs.declared.instruction.Instruction.TheVariants as i
use Rattle.code_forms.specs.declared.module_code.Arm.{Arm}
use Rattle.code_forms.specs.declared.module_code.CodeEntry.{CodeEntry}
use Rattle.code_forms.specs.declared.module_code.CodeProcedure.{CodeProcedure}
use Rattle.code_forms.specs.declared.module_code.Phrase.{Phrase}
use Rattle.code_forms.specs.Phrases.{Nests, PhraseIsRight, PhrasesFill, first_start}
use Rattle.code_forms.specs.Regions.{region_at}
use Rattle.code_forms.specs.Routine.{spot_of, spots, IsStart}
use Rattle.code_rules.specs.Modules.{procedures_of}
use Rattle.code_blocks.specs.Blocks.{Block, ArmBlocks, NoArmBlock, AndArmBlock}
use Rattle.code_blocks.specs.Laws.{PhrasesStand}
use Rattle.code_blocks.specs.Modules.{body_block, procedure_code}
use Rattle.code_blocks.specs.Sizes.{size, phrase_count}
use Rattle.code_blocks.specs.Writing.{in_arms, in_procedure, Pending, region, arms_code, arms_phrases, arms_size, regions, phrase_from}
use Rattle.code_blocks.specs.Regions.{Written, returning, first_region, with_arms, next_written, all_written, written}
use Rattle.code_blocks.proofs.Around.{Inside}
use Rattle.code_blocks.proofs.Clear.{ArmsClear, AllClear, all_clear_both, all_clear_more, clear_behind, regions_behind, arms_clear, all_clear_get, outside_first, in_one_region, AllOutside}
use Rattle.code_blocks.proofs.Counting.{AllArmed, armed_both, armed_block, armed_arms, all_finished}
use Rattle.code_blocks.proofs.Edges.{Started, AllStarted, all_started_both, all_started_left, all_started_right, closed_started, arms_started, started_get, ArmsStart, arms_start_still, arms_start_behind, regions_start_there}
use Rattle.code_blocks.proofs.Filling.{regions_fill}
use Rattle.code_blocks.proofs.Kept.{arms_inside, inside_get}
use Rattle.code_blocks.proofs.Nesting.{Ranged, ranged_first, ranged_with, found_as, ranges_nest}
use Rattle.code_blocks.proofs.RegionOrder.{HasArms, regions_begin}

-- The phrases whose arms are written: they end before their arms, whose regions begin at instructions and follow each other.

abbrev pub Joined : List Arm → Type 0
Joined arms = AllAdjacentBelow (λ (a b : Arm). a.end ≡ b.start) arms (length arms)

record Placed (es : List CodeEntry) (end : ℕ) (p : Phrase) : Type 0 where
  earlier : p.to ≤ first_start p.arms
  starts : ArmsStart es end p.arms
  joined : Joined p.arms

abbrev AllPlaced : List CodeEntry → (end : ℕ) → List Phrase → Type 0
AllPlaced es end [] = Unit {0}
AllPlaced es end (p ∷ done) = Placed es end p × AllPlaced es end done

placed_both : (es : List CodeEntry) (end : ℕ) (done more : List Phrase) → AllPlaced es end done → AllPlaced es end more → AllPlaced es end (done ++ more)
placed_both es end [] more g h = h
placed_both es end (p ∷ done) more g h = (g.0, placed_both es end done more g.1 h)

placed_still : (es fs : List CodeEntry) (b c : ℕ) (done : List Phrase) → b ≤ c → AllPlaced es b done → AllPlaced (es ++ fs) c done
placed_still es fs b c [] le h = tt
placed_still es fs b c (p ∷ done) le h = (
  record { earlier = (h.0).earlier; starts = arms_start_still es fs b c p.arms le (h.0).starts; joined = (h.0).joined },
  placed_still es fs b c done le h.1,
)

placed_get : (es : List CodeEntry) (end : ℕ) (done : List Phrase) → AllPlaced es end done → (k : ℕ) (p : Phrase) → slice_get done k ≡ Some p → Placed es end p
placed_get es end [] h k p e = cc
placed_get es end (q ∷ done) h zero p e = let same : q ≡ p = cc in subst (λ (x : Phrase). Placed es end x) same h.0
placed_get es end (q ∷ done) h (suc k) p e = placed_get es end done h.1 k p e

regions_join : (arms : ArmBlocks) (at k : ℕ) (d : Arm) → suc k < length (regions arms at)
    → (slice_index_or (regions arms at) k d).end ≡ (slice_index_or (regions arms at) (suc k) d).start
regions_join NoArmBlock at k d lt = absurd (omega (arith, lt))
regions_join (AndArmBlock labels slot words b NoArmBlock) at k d lt = absurd (omega (arith, lt))
regions_join (AndArmBlock labels slot words b (AndArmBlock l2 s2 w2 b2 arms)) at zero d lt = refl
regions_join (AndArmBlock labels slot words b (AndArmBlock l2 s2 w2 b2 arms)) at (suc k) d lt =
    regions_join (AndArmBlock l2 s2 w2 b2 arms) (at + size (region b)) k d (omega (arith, lt))

regions_joined : (arms : ArmBlocks) (at : ℕ) → Joined (regions arms at)
regions_joined arms at k d lt =
    let next : suc k ≡ k + 1 = omega arith in
    subst (λ n. (slice_index_or (regions arms at) k d).end ≡ (slice_index_or (regions arms at) n d).start) next (regions_join arms at k d (omega (arith, lt)))

-- no region of those begins within a range behind them
arms_before : (es : List CodeEntry) (end b : ℕ) (more : List Arm) (ps : List Pending) → ArmsStart es end more → Inside end b ps → ArmsClear more ps
arms_before es end b [] ps h i = tt
arms_before es end b (a ∷ more) ps h i = (clear_behind a.start end b ps (h.0).within i, arms_before es end b more ps h.1 i)

placed_before : (es : List CodeEntry) (end b : ℕ) (done : List Phrase) (ps : List Pending) → AllPlaced es end done → Inside end b ps → AllClear done ps
placed_before es end b [] ps h i = tt
placed_before es end b (p ∷ done) ps h i = (arms_before es end b p.arms ps (h.0).starts i, placed_before es end b done ps h.1 i)

-- What each step of writing keeps.

record Stood (w : Written) : Type 0 where
  armed : AllArmed w.found
  started : AllStarted w.code w.found
  placed : AllPlaced w.code w.end w.done
  clear : AllClear w.done w.found

stood_first : (b : Block) → Stood (first_region (returning b))
stood_first b = record {
  armed = armed_block (returning b) in_procedure 0;
  started = closed_started b i.Return in_procedure 0 0;
  placed = tt;
  clear = tt;
}

armed_get : (ps : List Pending) → AllArmed ps → (k : ℕ) (q : Pending) → slice_get ps k ≡ Some q → HasArms q.arms
armed_get [] h k q e = cc
armed_get (p ∷ ps) h zero q e = let same : p ≡ q = cc in subst (λ (x : Pending). HasArms x.arms) same h.0
armed_get (p ∷ ps) h (suc k) q e = armed_get ps h.1 k q e

stood_arms : (w : Written) (q : Pending) → slice_get w.found (length w.done) ≡ Some q → Ranged w → Stood w → Stood (with_arms w (Some q))
stood_arms w q at r h =
    let E = in_arms q.env in
    let fs = arms_code q.arms E w.end in
    let qs = arms_phrases q.arms E w.end in
    let new = w.end + arms_size q.arms in
    let i = arms_inside q.arms E w.end in
    let p = phrase_from q w.end in
    let begins = regions_begin q.arms w.end (armed_get w.found h.armed (length w.done) q at) in
    let ends = (inside_get 0 w.end w.found (length w.done) q at r.inside).2 in
    record {
      armed = armed_both w.found qs h.armed (armed_arms q.arms E w.end);
      started = all_started_both (w.code ++ fs) w.found qs (all_started_left w.code fs w.found h.started)
          (all_started_right w.code fs qs (arms_started q.arms E w.end));
      placed = placed_both (w.code ++ fs) new w.done (p ∷ []) (placed_still w.code fs w.end new w.done (omega arith) h.placed) (
        record {
          earlier = omega (arith, begins, ends);
          starts = arms_start_behind w.code fs new (regions q.arms w.end) (regions_start_there q.arms E w.end new (omega arith));
          joined = regions_joined q.arms w.end;
        },
        tt,
      );
      clear = all_clear_more w.done (p ∷ []) (w.found ++ qs)
          (all_clear_both w.done w.found qs h.clear (placed_before w.code w.end new w.done qs h.placed i))
          (all_clear_both (p ∷ []) w.found qs (regions_behind q.arms w.end 0 w.end w.found (omega arith) r.inside, tt) (arms_clear q.arms E w.end, tt));
    }

stood_with : (w : Written) (o : Option Pending) → slice_get w.found (length w.done) ≡ o → Ranged w → Stood w → Stood (with_arms w o)
stood_with w None e r h = h
stood_with w (Some q) e r h = stood_arms w q e r h

stood_all : (n : ℕ) (w : Written) → Ranged w → Stood w → Stood (all_written n w) × Ranged (all_written n w)
stood_all zero w r h = (h, r)
stood_all (suc n) w r h =
    let o = slice_get w.found (length w.done) in
    stood_all n (next_written w) (ranged_with w o r) (stood_with w o refl r h)

-- The rules of phrases.

pub is_start : (es : List CodeEntry) (o : ℕ) → Started es o → IsStart (spots es) o
is_start [] o h = absurd h
is_start (e ∷ es) o h =
    ⊎_elim
    (λ x. record { number = 0; begins = record { spot = spot_of e; is = refl; at = x } })
    (λ x. let r = is_start es o x in
    record { number = suc r.number; begins = record { spot = (r.begins).spot; is = (r.begins).is; at = (r.begins).at } })
    h

arms_each : (es : List CodeEntry) (end : ℕ) (arms : List Arm) → ArmsStart es end arms
    → All (λ (a : Arm). IsStart (spots es) a.start × (a.start < a.end)) arms
arms_each es end [] h k d lt = absurd (omega (arith, lt))
arms_each es end (a ∷ arms) h zero d lt = (is_start es a.start (h.0).start, (h.0).some)
arms_each es end (a ∷ arms) h (suc k) d lt = arms_each es end arms h.1 k d (omega (arith, lt))

-- what each of the phrases before one has
all_before : (P : Phrase → Type 0) (done : List Phrase) (n : ℕ) → n < length done
    → ((k : ℕ) (q : Phrase) → k < n → slice_get done k ≡ Some q → P q) → All P (take n done)
all_before P done n lt f k d less =
    let within : k < n = omega (arith, less, length-take-le n done (omega (arith, lt))) in
    subst P (sym (get_or-take n done k d within)) (f k (get_or done k d) within (slice_get-get_or done k d (omega (arith, within, lt))))

one_region : (done : List Phrase) (from upto : ℕ) → from < upto → AllOutside done from upto → region_at done from ≡ region_at done (upto - 1)
one_region done from upto lt h =
    let same : upto ≡ suc (upto - 1) = omega (arith, lt) in
    in_one_region done from (upto - 1) (omega (arith, lt)) (subst (λ n. AllOutside done from n) same h)

phrase_right : (m : Module) (c : Procedure) (n : ℕ) (p : Phrase) → slice_get (procedure_code m c).phrases n ≡ Some p
    → PhraseIsRight (spots (procedure_code m c).code) (take n (procedure_code m c).phrases) p
phrase_right m c n p e =
    let b = body_block m c in
    let w = written b in
    let f = all_finished b in
    let g = stood_all (phrase_count b) (first_region (returning b)) (ranged_first (returning b)) (stood_first b) in
    let s = g.0 in
    let x = found_as (returning b) w f.kept f.all n p e in
    let q = x.0 in
    let edges = started_get w.code w.found s.started n q x.1 in
    let here = placed_get w.code w.end w.done s.placed n p e in
    let nest = ranges_nest b in
    let lt = slice_get_within w.done n p e in
    let some = nest.filled n p e in
    let out = outside_first n w.done q.from q.upto (all_clear_get w.done w.found s.clear n q x.1) in
    record {
      stands = record {
        from = is_start w.code p.from (subst (λ o. Started w.code o) (sym x.2) edges.0);
        to = is_start w.code p.to (subst (λ o. Started w.code o) (sym x.3) edges.1);
        filled = some;
        listed = all_before (λ (r : Phrase). r.from ≤ p.from) w.done n lt (λ k r less there. nest.listed k n r p less there e);
        inside = one_region (take n w.done) p.from p.to some
            (subst (λ o. AllOutside (take n w.done) p.from o) (sym x.3) (subst (λ o. AllOutside (take n w.done) o q.upto) (sym x.2) out));
        earlier = here.earlier;
        regions = (regions_fill m c).follow n p e;
        arms = record { each = arms_each w.code w.end p.arms here.starts; joined = here.joined };
      };
      nests = all_before (Nests p) w.done n lt (λ k r less there. nest.nests k n r p less there e);
    }

pub procedure_fills : (m : Module) (c : Procedure) → PhrasesFill (spots (procedure_code m c).code) (procedure_code m c).phrases
procedure_fills m c = record {
  right = λ n p lt e. phrase_right m c n p e;
  filled = (regions_fill m c).filled;
}

all_stand : (m : Module) (ps : List Procedure) → All (λ (c : CodeProcedure). PhrasesFill (spots c.code) c.phrases) (map (procedure_code m) ps)
all_stand m [] k d lt = absurd (omega (arith, lt))
all_stand m (p ∷ ps) zero d lt = procedure_fills m p
all_stand m (p ∷ ps) (suc k) d lt = all_stand m ps k d (omega (arith, lt))

pub phrases_stand : PhrasesStand
phrases_stand m = all_stand m (procedures_of m)
