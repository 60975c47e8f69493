use Rattle.std.proofs.Common.{◌≡◌, List, [], ◌∷◌, ◌++◌, length, map, Some, sym, ap, ◌∙◌, append-nil, length-append, arith}
use Rattle.std.specs.Prelude.{reverse}
use Rattle.std.proofs.lemmas.List.{length-reverse, reverse-reverse}
use Rattle.std.proofs.lemmas.List.Elements.{All-nil, All-pop, All-same}
use Rattle.held_objects.specs.declared.rows.ModuleRows.{ModuleRows}
use Rattle.image_readers.proofs.Made.{parts_next, fault_there}
use Rattle.image_readers.proofs.Turns.{all_more, all_reversed, last_first}
use Rattle.image_readers.specs.Rows.{AreInRange}
use Rattle.object_files.specs.declared.object.Object.{Object}
use Rattle.object_readers.specs.Rows.{module_part, RowsFit}
use Rattle.object_rules.specs.Parts.{ModulePart, parts_of, IsWhole}
use Rattle.image_readers.proofs.building.objects.Goals as goal

at_first : (all : List Object) (left rows : List ModuleRows) → all ≡ [] → left ≡ reverse rows → map parts_of all ++ map module_part (reverse left) ≡ map module_part rows
at_first all left rows none e = ap (λ (os : List Object). map parts_of os ++ map module_part (reverse left)) none ∙ ap (λ ms. map module_part (reverse ms)) e ∙ ap (map module_part) (reverse-reverse rows)

taken : (all : List Object) (old left : List ModuleRows) (m : ModuleRows) (whole : List ModulePart) → old ≡ left ++ m ∷ []
    → map parts_of all ++ map module_part (reverse old) ≡ whole → map parts_of all ++ map module_part (m ∷ reverse left) ≡ whole
taken all old left m whole e so = ap (λ ms. map parts_of all ++ map module_part ms) (sym (ap reverse e ∙ last_first left m)) ∙ so

at_last : (all : List Object) (left : List ModuleRows) (whole : List ModulePart) → left ≡ [] → map parts_of all ++ map module_part (reverse left) ≡ whole → map parts_of all ≡ whole
at_last all left whole none so = sym (append-nil (map parts_of all)) ∙ ap (λ ms. map parts_of all ++ map module_part (reverse ms)) (sym none) ∙ so

pub each-init : goal.each-init
each-init c = record {
  parts = at_first c.new-all.result c.reverse.new.self c.args.modules c.new-all.ensures c.reverse.ensures;
  whole = All-same IsWhole c.new-all.result [] c.new-all.ensures (All-nil IsWhole);
  rows = all_reversed RowsFit c.args.modules c.reverse.new.self c.reverse.ensures c.requires.rows;
  ranges = all_reversed AreInRange c.args.modules c.reverse.new.self c.reverse.ensures c.requires.ranges;
  few = omega (arith, ap length c.new-all.ensures, ap length c.reverse.ensures, length-reverse c.args.modules, c.requires.few);
}

pub each-preserved : goal.each-preserved
each-preserved c =
    let old = c.each.invariant in
    record {
      parts = parts_next c.each.all (reverse c.pop.new.self) c.in-Ok.more c.in-Ok.ensures.made.0 c.in-Some.rows _
          (taken c.each.all c.each.modules c.pop.new.self c.in-Some.rows _ c.in-Some.ensures old.parts) c.in-Ok.ensures.made.1 c.in-Ok.ensures.made.2;
      whole = all_more IsWhole c.each.all c.in-Ok.more c.in-Ok.ensures.made.0 c.in-Ok.ensures.made.1 old.whole c.in-Ok.ensures.made.3;
      rows = (All-pop RowsFit c.each.modules c.pop.new.self (Some c.in-Some.rows) c.in-Some.ensures old.rows).0;
      ranges = (All-pop AreInRange c.each.modules c.pop.new.self (Some c.in-Some.rows) c.in-Some.ensures old.ranges).0;
      few = omega (arith, old.few, ap length c.in-Some.ensures, length-append c.pop.new.self (c.in-Some.rows ∷ []), ap length c.in-Ok.ensures.made.1, length-append c.each.all (c.in-Ok.ensures.made.0 ∷ []));
    }

pub grown-requires-clause-rows : goal.grown-requires-clause-rows
grown-requires-clause-rows c = (All-pop RowsFit c.each.modules c.pop.new.self (Some c.in-Some.rows) c.in-Some.ensures c.each.invariant.rows).1

pub grown-requires-clause-ranges : goal.grown-requires-clause-ranges
grown-requires-clause-ranges c = (All-pop AreInRange c.each.modules c.pop.new.self (Some c.in-Some.rows) c.in-Some.ensures c.each.invariant.ranges).1

pub returns-in-Err-clause-fault : goal.returns-in-Err-clause-fault
returns-in-Err-clause-fault c = λ other.
    fault_there c.each.all (reverse c.pop.new.self) c.in-Some.rows _ c.len-number.result c.in-Err.fault
    (taken c.each.all c.each.modules c.pop.new.self c.in-Some.rows _ c.in-Some.ensures c.each.invariant.parts) c.each.invariant.whole (sym c.len-number.ensures) (c.in-Err.ensures.fault other)

pub returns-clause-made : goal.returns-clause-made
returns-clause-made c = (at_last c.each.all c.each.modules _ c.in_default.ensures.0 c.each.invariant.parts, c.each.invariant.whole)
