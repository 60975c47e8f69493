-- A context for a part of a construct: other hidden words, and the offsets of the part.
use Rattle.std.proofs.Common.{ℕ, ◌+◌, ◌≤◌, List, [], refl, arith}
use Rattle.code_forms.specs.declared.instruction.Instruction.{Instruction}
use Rattle.source_meaning.specs.State.{ProcedureId}
use Rattle.code_rules.specs.CodeFor.{Onward, falls, jumps}
use Rattle.code_rules.specs.Laws.{Run, ends, goes}
use Rattle.code_rules.specs.Points.{Points}
use Rattle.code_rules.specs.Reading.{Coded, Destination, Place, beyond, Own, no_more, one_more}
use Rattle.agreement_laws.specs.World.{World}
use Rattle.agreement_laws.specs.Standing.{Here}
use Rattle.agreement_laws.specs.Relation.{Ground, Hold}
use Rattle.agreement_laws.specs.Chains.{Floor, Room}
use Rattle.agreement_laws.specs.Contexts.{Site, Context, InPlace, Inside}

-- fewer hidden words
pub room_part : (W : World) (p : ProcedureId) (B : List Here) (H : Hold) (F : Floor) (f from to first last : ℕ) → from ≤ first → first ≤ last → last ≤ to
    → Room W p B H F f from to → Room W p B H F f first last
room_part W p B H F f from to first last low order high h = record {
  above = let x = h.above in omega (arith, x, low);
  low = let x = h.low in omega (arith, x, low);
  floors = h.floors;
  order = order;
  free = λ z le lt. h.free z (omega (arith, le, low)) (omega (arith, lt, high));
}

pub context_part : (W : World) (K : Site) (points : Points Destination) (around : List ℕ) (from to first last : ℕ) → from ≤ first → first ≤ last → last ≤ to
    → Context W K points around from to → Context W K points around first last
context_part W K points around from to first last low order high h = record {
  code_of = h.code_of;
  scope_in = h.scope_in;
  instance = h.instance;
  is_frame = h.is_frame;
  nested = h.nested;
  fresh = h.fresh;
  targets = h.targets;
  finds = h.finds;
  chain = h.chain;
  room = room_part W K.ground.here.procedure _ K.ground.hold K.floor K.meant.frame from to first last low order high h.room;
  holds = h.holds;
}

-- for a part behind so many hidden words, which takes some of the others
pub place_part : (W : World) (K : Site) (w : Place) (words before part : ℕ) → before + part ≤ words → InPlace W K w words → InPlace W K (beyond before w) part
place_part W K w words before part le h =
    context_part W K w.points w.around w.slot (w.slot + words) (w.slot + before) (w.slot + before + part) (omega arith) (omega arith) (omega (arith, le)) h

pub place_first : (W : World) (K : Site) (w : Place) (words part : ℕ) → part ≤ words → InPlace W K w words → InPlace W K w part
place_first W K w words part le h =
    context_part W K w.points w.around w.slot (w.slot + words) w.slot (w.slot + part) (omega arith) (omega arith) (omega (arith, le)) h

-- Offsets.

pub run_order : {P : Coded} {around : List ℕ} {a b : ℕ} → Run P around a b → a ≤ b
run_order ends = omega arith
run_order (goes r inner is inside p) = let le = run_order p in omega (arith, le)

pub own_run : {P : Coded} {w : Place} {is : List Instruction} {a b : ℕ} → Own P w is a b → Run P w.around a b
own_run no_more = ends
own_run {w = w} (one_more {i = i} r rest) = goes (record { instruction = i; depth = w.depth; around = w.around }) [] r refl (own_run rest)

pub onward_run : {P : Coded} {w : Place} {target a b : ℕ} → Onward P w target a b → Run P w.around a b
onward_run falls = ends
onward_run (jumps o) = own_run o

pub inside_part : (W : World) (G : Ground) (a b c d : ℕ) → a ≤ c → d ≤ b → Inside W G a b → Inside W G c d
inside_part W G a b c d low high h o x y = h o (omega (arith, low, x)) (omega (arith, high, y))
