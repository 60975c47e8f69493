-- A checked module is no larger than its text and the interfaces given to it.
use Rattle.std.specs.Prelude.{ℕ, ◌≡◌, ◌≤◌, true, None, Ok, Err, List, [], map, IfOk}
use Rattle.std.proofs.Common.{refl, ap, arith}
use Rattle.mesa_base.specs.declared.limits.TheConstants.{DISTINCT_STRINGS}
use Rattle.mesa_base.specs.declared.place.Place.{Place}
use Rattle.mesa_base.specs.declared.identifier.Identifier.{Identifier}
use Rattle.syntax_trees.specs.Syntax as s
use Rattle.mesa_types.specs.Nodes as tn
use Rattle.interface_records.specs.declared.interface.Interface.{Interface}
use Rattle.interface_records.specs.PlainTypes.{PlainInterface, face_of, plain_interface}
use Rattle.check_rules.specs.Typed as t
use Rattle.check_rules.specs.Steps.{State, Checked}
use Rattle.check_rules.specs.Around.{Around, body_of}
use Rattle.check_rules.specs.Mentions as text
use Rattle.check_rules.specs.Phrases.{is_catch}
use Rattle.check_rules.specs.Programs.{unused, Whole, enabled, signals_of, offers_of}
use Rattle.check_rules.specs.Directory.{those_of}
use Rattle.check_rules.specs.CheckedModule.{checked, module_of, program, program_by, known_of, whole_of}
use Rattle.checking_laws.specs.Laws.{ModulesAreSizedByTheirText, UsedItemsAreFew, UsedItemsAreNamed}
use Rattle.checking_laws.specs.Sizes.{SizedBy}
use Rattle.checking_laws.specs.Weights as tree
use Rattle.checking_laws.specs.Weights.{one_each, in_bytes}
use Rattle.checking_laws.proofs.Uses as u
use Rattle.checking_laws.proofs.Marks.{marks, none_marked, used_are_marked}
use Rattle.checking_laws.proofs.Using.{Gives, Used, all_right, and_gives}
use Rattle.checking_laws.proofs.Declarations.{OfWhole, whole_in_used}
use Rattle.checking_laws.proofs.Heads.{BytesDeclared, whole_in_named, items_bytes}
use Rattle.checking_laws.proofs.Lists.{lists_given, exported_given, those_length, each_counted, imported_length, imported_faces, given_faces}
use Rattle.checking_laws.proofs.Once.{Apart, those_once}
use Rattle.checking_laws.proofs.Written.{mention_bytes, literals_written, in_inner}

-- what is known of a program's body and procedures, of which none was marked at the start
record Wholes (inner : s.Inner) (r : Whole × State) : Type 0 where
  growth : ℕ
  marked : marks r.1.used ≤ growth
  uses : OfWhole inner r.0 growth
  bytes : BytesDeclared inner r.0 0

both_known : (inner : s.Inner) (before : ℕ) → before ≡ 0 → (r : Checked (Whole × State)) → Used (OfWhole inner) before r → Used (BytesDeclared inner) before r
    → Gives (Wholes inner) r
both_known inner before e (Ok x) h k = record { given = record { growth = h.growth; marked = omega (arith, h.marked); uses = h.holds; bytes = k.holds } }
both_known inner before e (Err f) h k = record { given = h }

module _ (m : s.Module) (is : List Interface) where
  abbrev plain : List PlainInterface
  plain = map plain_interface is

  module_sized : (p : Place) (imports exports opens : List Identifier) (inner : s.Inner) → m.kind ≡ s.Program p imports exports opens inner
      → Apart [] imports × Apart [] exports → (r : Whole × State) → Wholes inner r
      → Gives (SizedBy m is) (module_of m plain imports exports r)
  unfolding tn.nodes tree.kind_weight tree.module_weight text.of_kind
  module_sized p imports exports opens inner e apart r w =
      let names = ap (tree.kind_weight one_each) e in
      let bytes = ap (tree.kind_weight in_bytes) e in
      let mentioned = ap (λ k. mention_bytes (text.of_kind k)) e in
      let literals = literals_written DISTINCT_STRINGS (text.of_kind m.kind) in
      and_gives (exported_given (offers_of r.0.declared) (those_of m.directory plain exports)) (λ es h. all_right (record {
        named = omega (
          arith,
          used_are_marked (those_of m.directory plain imports) r.1.used,
          imported_length (those_of m.directory plain imports) r.1.used,
          those_length m.directory plain imports,
          those_length m.directory plain exports,
          h.many,
          each_counted imports,
          each_counted exports,
          w.marked,
          w.uses.0,
          names,
        );
        used = omega (
          arith,
          used_are_marked (those_of m.directory plain imports) r.1.used,
          u.few_in_procedures r.0.procedures,
          u.few_in_stmt r.0.body.does,
          w.marked,
          w.uses.1,
        );
        written = omega (
          arith,
          literals,
          mentioned,
          in_inner inner,
          items_bytes (signals_of r.0.declared),
          w.bytes,
          bytes,
        );
        imported = λ f. omega (
          arith,
          imported_faces f (those_of m.directory plain imports) r.1.used,
          those_once (λ i. f (face_of i)) m.directory plain imports apart.0,
          given_faces f is,
        );
        exported = λ f. omega (arith, h.faces f, those_once (λ i. f (face_of i)) m.directory plain exports apart.1, given_faces f is);
      }))

  program_sized : (p : Place) (imports exports opens : List Identifier) (inner : s.Inner) → m.kind ≡ s.Program p imports exports opens inner
      → Gives (SizedBy m is) (program m plain imports exports opens inner)
  program_sized p imports exports opens inner e =
      let around : Around = enabled (is_catch inner.enable) (body_of (known_of m None true imports plain) [] []) in
      and_gives (lists_given m plain imports exports opens) (λ v apart.
      and_gives (both_known inner (marks (unused (those_of m.directory plain imports))) (none_marked (those_of m.directory plain imports))
      (whole_of m plain imports opens inner)
      ((whole_in_used around m.name.place inner).in_state _) ((whole_in_named around m.name.place inner).in_state _))
      (λ r w. module_sized p imports exports opens inner e apart r w))

  if_ok : {P : t.Module → Type 0} (r : Checked t.Module) → Gives P r → IfOk r P
  if_ok (Ok a) h = h.given
  if_ok (Err f) h = tt

  by_kind : (k : s.ModuleKind) → m.kind ≡ k → IfOk (program_by m plain k) (SizedBy m is)
  by_kind (s.Program p imports exports opens inner) e = if_ok (program m plain imports exports opens inner) (program_sized p imports exports opens inner e)
  by_kind (s.Interface p opens defs) e = tt

pub modules_are_sized : ModulesAreSizedByTheirText
unfolding checked
modules_are_sized m is = by_kind m is m.kind refl

weaker : {P Q : t.Module → Type 0} (r : Checked t.Module) → IfOk r P → ((x : t.Module) → P x → Q x) → IfOk r Q
weaker (Ok x) h k = k x h
weaker (Err f) h k = tt

pub used_items_are_few : UsedItemsAreFew
used_items_are_few m is = weaker {P = SizedBy m is} (checked m is) (modules_are_sized m is) (λ x h. h.used)

pub used_items_are_named : UsedItemsAreNamed
used_items_are_named m is = weaker {P = SizedBy m is} (checked m is) (modules_are_sized m is) (λ x h. h.named)
