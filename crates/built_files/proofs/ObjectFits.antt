-- The form of objects in version 2 fits an object whose shape and code can be spelled.
use Rattle.std.proofs.Common.{◌≡◌, ℕ, ◌<◌, ◌≤◌, true, List, [], length, map, slice_get, refl, subst, arith}
use Rattle.std.specs.Prelude.{All}
use Rattle.std.proofs.lemmas.Bool.{le-leb}
use Rattle.std.proofs.lemmas.List.{length-map}
use Rattle.mesa_base.specs.Name.{IsName}
use Rattle.mesa_base.specs.declared.limits.TheConstants.{GLOBAL_WORDS, DISTINCT_STRINGS, STRING_BYTES}
use Rattle.mesa_types.specs.declared.faces.Export.{Export}
use Rattle.mesa_types.specs.declared.faces.Pair.{Pair}
use Rattle.interface_records.specs.PlainTypes.{plain_item}
use Rattle.interface_records.specs.Spelled.{ImportCanBeSpelled, ExportCanBeSpelled}
use Rattle.code_forms.specs.declared.module_code.CodeSignal.{CodeSignal}
use Rattle.code_forms.specs.declared.module_code.ModuleCode.{ModuleCode}
use Rattle.code_forms.specs.Ranges.{SignalInRange, ProcedureInRange}
use Rattle.object_rules.specs.ModuleForms.{is_next, gives_item, last_item, import_form, signal, text, given, export_form, module_form}
use Rattle.object_rules.specs.Parts.{procedure_part, link_codes}
use Rattle.spelled_laws.proofs.FacesFit.{faces_fit}
use Rattle.spelled_laws.proofs.Names.{name_fits}
use Rattle.read_files.proofs.Ascending.{ascend_each, got_next}
use Rattle.read_files.proofs.Shapes.{imports_fit, item_grows}
use Rattle.built_files.specs.Laws.{SpelledObjectsFit}
use Rattle.built_files.specs.Objects.{InBytes, GivesItems}
use Rattle.built_files.proofs.CodeFits.{each_of, put_signal, put_text, put_procedures}

module _ (c : ModuleCode) where
  abbrev Gives : Export → Pair → Type 0
  Gives e p = InBytes 4 p.number × (gives_item c.signals (map procedure_part c.procedures) (slice_get e.face.items p.item) p.number ≡ true)

  few_items : (e : Export) → ExportCanBeSpelled e → length e.face.items < 4294967296
  few_items e h = let few : length (map plain_item e.face.items) < 4294967296 = h.face.count in omega (arith, few, length-map e.face.items plain_item)

  item_few : (e : Export) → ExportCanBeSpelled e → (before : List Pair) (p : Pair) → is_next (length e.face.items) (last_item before) p.item ≡ true → p.item < 4294967296
  item_few e h before p n = let less = (got_next (length e.face.items) (last_item before) p.item n).1 in let few = few_items e h in omega (arith, less, few)

  put_export : (e : Export) → ExportCanBeSpelled e → GivesItems c e → (export_form 2 c.signals (map procedure_part c.procedures)).fits e
  unfolding export_form given
  put_export e h g =
      let few : length e.given < 4294967296 = h.count in (
        (faces_fit e.face).0 h.face,
        (
          (few, le-leb 0 (length e.given) (omega arith)),
          (
            refl,
            ascend_each (given c.signals (map procedure_part c.procedures) e.face.items) (λ (p : Pair). p.item) last_item item_grows (length e.face.items) (Gives e)
                (λ before p f n. ((item_few e h before p n, n), f)) [] e.given g h.items,
          ),
        ),
      )

pub objects_fit : SpelledObjectsFit
unfolding module_form
objects_fit o s c =
    let imports : length o.shape.imports < 4294967296 = s.import_count in
    let exports : length o.shape.exports < 4294967296 = s.export_count in
    let globals : o.code.global_words ≤ 16384 = c.ranges.few_globals in
    let signals : length o.code.signals < 4294967296 = c.ranges.few_signals in
    let strings : length o.code.strings ≤ 65535 = c.ranges.few_strings in
    let procedures : length o.code.procedures < 4294967296 = c.ranges.few_procedures in
    let ranges = subst (λ links. All (ProcedureInRange o.code.signals links) o.code.procedures) c.links c.ranges.each_procedure in (
      name_fits o.shape.name s.name,
      (
        (
          (imports, le-leb 0 (length o.shape.imports) (omega arith)),
          (refl, each_of (import_form 2) ImportCanBeSpelled (λ i h. (imports_fit i).0 h) [] o.shape.imports s.imports),
        ),
        (
          (omega (arith, globals), le-leb o.code.global_words GLOBAL_WORDS c.ranges.few_globals),
          (
            (
              (signals, le-leb 0 (length o.code.signals) (omega arith)),
              (
                refl,
                each_of signal (λ (x : CodeSignal). IsName x.name × SignalInRange x × InBytes 2 x.args × InBytes 2 x.results) (λ x h. put_signal x h.0 h.1 h.2 h.3) [] o.code.signals
                    (λ k d less. let n = c.numbers.signals k d less in (c.signals k d less, c.ranges.each_signal k d less, n.0, n.1)),
              ),
            ),
            (
              (
                (omega (arith, strings), le-leb (length o.code.strings) DISTINCT_STRINGS c.ranges.few_strings),
                (
                  refl,
                  each_of text (λ (t : List ℕ). (length t ≤ STRING_BYTES) × All (λ b. b < 256) t) (λ t h. put_text t h.0 h.1) [] o.code.strings
                      (λ k d less. (c.ranges.each_string k d less, c.texts k d less)),
                ),
              ),
              (
                put_procedures o.code.signals (link_codes o.shape.imports) o.code.procedures c.ranges.body procedures
                    (λ k d less. record { name = c.procedures k d less; ranges = ranges k d less; numbers = c.numbers.procedures k d less }),
                (
                  (exports, le-leb 0 (length o.shape.exports) (omega arith)),
                  (
                    refl,
                    each_of (export_form 2 o.code.signals (map procedure_part o.code.procedures)) (λ e. ExportCanBeSpelled e × GivesItems o.code e)
                        (λ e h. put_export o.code e h.0 h.1) [] o.shape.exports (λ k d less. (s.exports k d less, c.exports k d less)),
                  ),
                ),
              ),
            ),
          ),
        ),
      ),
    )
