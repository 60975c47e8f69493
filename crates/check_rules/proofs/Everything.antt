-- What the examples compute with.
use Rattle.std.specs.Prelude.{ℕ}
use Rattle.check_rules.specs.Scopes as scopes
use Rattle.interface_records.specs.PlainTypes as plaintypes
use Rattle.check_rules.specs.Ranges as ranges
use Rattle.check_rules.specs.Operators as operators
use Rattle.mesa_types.specs.Constants as constants
use Rattle.mesa_types.specs.Longs as longs
use Rattle.mesa_types.specs.Operators as words
use Rattle.check_rules.specs.Parts as parts
use Rattle.check_rules.specs.Around as around
use Rattle.check_rules.specs.Names as names
use Rattle.check_rules.specs.Reached as reached
use Rattle.check_rules.specs.TypeRules as rules
use Rattle.check_rules.specs.Statements as statements
use Rattle.check_rules.specs.Phrases as phrases
use Rattle.check_rules.specs.Values as values
use Rattle.check_rules.specs.Checking as checking
use Rattle.check_rules.specs.Mentions as mentions
use Rattle.check_rules.specs.Directory as directory
use Rattle.check_rules.specs.Programs as programs
use Rattle.check_rules.specs.Definitions as definitions
use Rattle.check_rules.specs.CheckedModule as top
use Rattle.mesa_types.specs.Shapes as shapes
use Rattle.check_rules.proofs.Lexing as lexing
use Rattle.check_rules.proofs.Reading as reading
use Rattle.check_rules.proofs.Texts as texts

unfoldable pub everything : ℕ
unfolding scopes.has plaintypes.fields_of_parts plaintypes.parts_of plaintypes.same_names plaintypes.same plaintypes.same_parts plaintypes.base_of
    plaintypes.words_of plaintypes.words_of_parts plaintypes.words_of_fields plaintypes.depth_of plaintypes.depth_of_parts plaintypes.kind_of
    plaintypes.kinds_of_parts plaintypes.kinds_of plaintypes.is_ordinal plaintypes.conforms plaintypes.sign_of plaintypes.tree_of plaintypes.trees_of plaintypes.plain
    plaintypes.plain_field ranges.range_for ranges.conversion_for ranges.given_as ranges.finish operators.sort_of operators.meet operators.meet_long operators.fitted operators.beside operators.word_operation operators.operation operators.related operators.relating constants.constant
    constants.constant_run constants.constant_long_run constants.all_true constants.some_true words.wrap words.shifted words.unshifted words.opposite words.is_negative
    words.magnitude_if words.magnitude words.with_sign words.differ words.quotient words.remainder words.related words.past words.first_of
    words.beyond words.lies_in words.truth words.is_true words.fits words.fine_if words.checked words.by_divisor words.character words.tried
    longs.more_of longs.less_of longs.two_words longs.long_of longs.wrap_long longs.shifted_long longs.opposite_long longs.is_negative_long
    longs.long_magnitude_if longs.long_magnitude longs.with_sign_long longs.quotient_long longs.remainder_long longs.tried_long
    longs.related_long longs.lies_in_long longs.extended_if longs.extended longs.is_in_common longs.widened longs.is_word_of longs.narrowed
    longs.on_fine longs.converted
    parts.first parts.distinct parts.found parts.same_types parts.same_fields parts.count parts.keys parts.count_lefts parts.keys_of_lefts
    parts.are_fields parts.differ parts.and_operation parts.and_suffix parts.join_stmts around.label_scope around.jump around.all_resumable
    around.all_give around.resumed around.all_like around.parameters_of names.mark names.seen names.named names.of_interface names.qualified
    names.type_named names.word_base names.signals names.arm_labels names.announce names.each_means names.settle reached.reached reached.value
    reached.field_in reached.field reached.indexed reached.at_index reached.shape_of reached.stored reached.performed rules.limited rules.elements
    rules.few rules.is_index rules.bound rules.base_of_bounds rules.subrange statements.not_long statements.meets_bounds statements.is_long_interval statements.by_itself_of statements.longer_number
    statements.longer_bounds statements.selected statements.tested statements.tested_inside statements.rounds
    statements.given statements.source statements.extracted statements.variables statements.fields_from statements.enter_arm
    statements.is_text_literal statements.constant_meaning statements.labels_of_exits statements.labels_of_repeats statements.numbers_from
    phrases.holds phrases.in_steps phrases.in_interval phrases.in_left phrases.in_suffixes phrases.in_brackets phrases.in_items phrases.in_exprs
    phrases.in_keyed phrases.in_raise phrases.in_maybe phrases.in_lefts phrases.in_keyed_lefts phrases.in_targets phrases.in_tests phrases.in_cases
    phrases.in_values values.number values.letter values.number_in values.string values.is_truth values.not_of values.signed values.compared
    values.within values.step values.bound_of checking.check checking.sums checking.truths checking.interval checking.walk checking.apply checking.one
    checking.construct checking.arguments checking.values checking.alike checking.keyed checking.raise checking.with_brackets checking.phrase
    checking.arms checking.type_exp checking.fields_of checking.named_fields checking.unnamed_fields checking.of_interval checking.statement
    checking.otherwise checking.statements checking.target checking.targets checking.targets_in_order checking.targets_by_key checking.cases
    checking.tests checking.control checking.counted checking.condition checking.repeats checking.exits checking.block checking.heads checking.head
    checking.initials checking.initial mentions.of_type mentions.of_fields mentions.of_named mentions.of_types mentions.of_interval mentions.of_expr
    mentions.of_steps mentions.of_left mentions.of_suffixes mentions.of_brackets mentions.of_items mentions.of_exprs mentions.of_keyed
    mentions.of_raise mentions.of_maybe mentions.of_phrase mentions.of_arms mentions.of_stmt mentions.of_other mentions.of_values mentions.of_targets
    mentions.of_lefts mentions.of_keyed_lefts mentions.of_stmts mentions.of_control mentions.of_count mentions.of_condition mentions.of_cases
    mentions.of_tests mentions.of_block mentions.of_locals mentions.of_plain mentions.of_exits mentions.of_repeats mentions.of_declarations
    mentions.of_definitions mentions.of_kind mentions.texts mentions.origins directory.first_entry directory.elements_from directory.elements_in
    directory.in_parts directory.in_fields directory.in_items directory.in_constants directory.in_types directory.items_from directory.entries
    directory.place_in directory.offered directory.directory_scope directory.opened directory.used_names directory.directory directory.listed
    directory.those_of programs.elements_of programs.elements_in programs.elements_in_named programs.elements_in_types programs.ahead programs.behind
    programs.named_parameters programs.heading programs.signal_offers programs.signal_meanings programs.declared programs.all_declared
    programs.signals_of programs.offers_of programs.procedure programs.value_of programs.values_of programs.offer_named programs.pairs
    programs.exported programs.unused programs.marked_from programs.imported programs.whole_in definitions.ahead definitions.defined
    definitions.all_defined top.checked top.checked_definitions shapes.words_in shapes.words_in_all shapes.count_in shapes.join shapes.one
    shapes.copies lexing.split lexing.digits lexing.lex lexing.tokens reading.names reading.qualifieds reading.are_keys reading.expr reading.or_steps
    reading.conj reading.and_steps reading.neg reading.rel reading.sum reading.sum_steps reading.more_sum reading.product reading.product_steps
    reading.more_product reading.factor reading.primary reading.interval reading.bounds reading.left reading.suffixes reading.brackets reading.items
    reading.exprs reading.keyed reading.raise reading.raise_brackets reading.arms reading.labels reading.statement reading.other reading.list
    reading.targets reading.lefts reading.keyed_lefts reading.statements reading.cases reading.tests reading.test reading.loop reading.count
    reading.condition reading.repeats reading.repeat_labels reading.enable reading.one_arm reading.block reading.exits reading.more_exits
    reading.locals reading.plain reading.type_exp reading.of_base reading.fields reading.named_fields reading.types reading.declarations
    reading.definitions reading.directory_items texts.unmarked texts.marked texts.mistakes texts.mistakes_under
everything = 0
