-- Where all arms are written, each region lies in no phrase, and the arms of each phrase lie where its regions are.
use Rattle.std.proofs.Common.{◌≡◌, ap, ◌∙◌, ℕ, ◌+◌, inl, inr, [], length, arith}
use Rattle.std.specs.Prelude.{slice_get}
use Rattle.code_forms.specs.Routine.{Routine}
use Rattle.code_rules.specs.Reading.{Coded}
use Rattle.code_blocks.specs.Blocks.{Block, ArmBlocks, NoArmBlock, AndArmBlock}
use Rattle.code_blocks.specs.Sizes.{size}
use Rattle.code_blocks.specs.Writing.{Env, in_arms, in_procedure, region}
use Rattle.code_blocks.specs.Regions.{Written}
use Rattle.code_blocks.proofs.Around.{AreWritten, none_more, outside_one}
use Rattle.code_blocks.proofs.CallRows.{Held}
use Rattle.code_blocks.proofs.Kept.{RegionAt, ArmsAt, Kept}
use Rattle.code_blocks.proofs.Lists.{get_there}
use Rattle.code_blocks.proofs.Lying.{Laid, Lies, ArmsLie}
use Rattle.std.proofs.lemmas.Option.{slice_get_within}

module _ (U : Coded) (r : Routine) (b : Block) (w : Written) (kept : Kept b w) (all : length w.done ≡ length w.found) (same : r.phrases ≡ w.done) where
  pub is_written : AreWritten r.phrases w.found
  is_written j q e =
      let x = kept.arms j q (omega (arith, all, slice_get_within w.found j q e)) e in
      (x.0, ap (λ l. slice_get l j) same ∙ x.1)

  abbrev pub placed : Laid
  placed = record { names = U; routine = r; entries = w.code; found = w.found; written = is_written }

  as_many : length r.phrases ≡ length w.found
  as_many = ap length same ∙ all

  pub region_lies : (c : Block) (E : Env) (at : ℕ) → RegionAt w.code w.found c E at → Lies placed c E [] 0 at
  region_lies c E at g = record {
    has = g.has;
    number = g.number;
    spot = record {
      has = g.listed;
      inside = omega (arith, g.inside, as_many);
      before = λ o x y. none_more r.phrases 0 g.number o (omega arith) (λ k z lt.
          let q = get_there w.found k (omega (arith, lt, g.inside)) in
          outside_one r.phrases w.found is_written k o q.0 q.1 (inr (omega (arith, x, g.earlier k q.0 q.1 lt))));
      later = λ k o ge lt x y.
          let q = get_there w.found k (omega (arith, lt, as_many)) in
          outside_one r.phrases w.found is_written k o q.0 q.1 (inl (omega (arith, y, g.later k q.0 q.1 ge)));
    };
  }

  arms_lie : (arms : ArmBlocks) (E : Env) (at : ℕ) → ArmsAt w.code w.found arms E at → ArmsLie placed arms E at
  arms_lie NoArmBlock E at g = tt
  arms_lie (AndArmBlock labels slot words c arms) E at g = (region_lies (region c) E at g.0, arms_lie arms E (at + size (region c)) g.1)

  pub held : Held placed
  unfolding is_written
  held j q e = arms_lie q.arms (in_arms q.env) _ (kept.arms j q (omega (arith, all, slice_get_within w.found j q e)) e).2

  pub body_lies : Lies placed b in_procedure [] 0 0
  body_lies = region_lies b in_procedure 0 kept.body
