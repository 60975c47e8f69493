-- Expressions follow: one recursion over the tree.
use Rattle.std.proofs.Common.{◌≡◌, ℕ, suc, ◌+◌, ◌<◌, List, [], ◌∷◌, true, false, not, refl, sym, ◌∙◌, subst, arith}
use Rattle.mesa_types.specs.Typed.{Kind, Texts, Kinds, NoKinds, AndKind, Expr, Number, LongNumber, Literal, Variable, FieldOf, LengthOf, ByteOf, Checked, Converted, Operate, OperateLong, Negate, NegateLong, Relate, RelateLong, Within, WithinLong, Not, AllOf, SomeOf, Construct, Call, Raise, Exprs, NoExprs, AndExpr, Suffixes, NoSuffix, Field, Index, Operations, NoOperation, Then, Between}
use Rattle.mesa_types.specs.Shapes.{HasWords, one, words_in, words_in_all}
use Rattle.mesa_types.specs.Counts.{hidden_expr, hidden_exprs, hidden_suffixes, hidden_operations, hidden_interval, hidden_phrase, words_of}
use Rattle.mesa_types.specs.Plain.{kinds_of}
use Rattle.mesa_types.specs.Operators.{truth}
use Rattle.mesa_types.specs.Longs.{two_words}
use Rattle.mesa_types.specs.Sound.{Scope, a_word, a_long, Constructs, Arranged, ExprIn, ExprsIn, WordsIn, SuffixesIn, OperationsIn, LongOperationsIn, IntervalIn, LongIntervalIn}
use Rattle.mesa_types.proofs.Arranged.{arranged_words}
use Rattle.mesa_types.proofs.WordSizes.{sizes_agree}
use Rattle.code_forms.specs.declared.instruction.Instruction.TheVariants as i
use Rattle.source_meaning.specs.Value.{nth, word}
use Rattle.source_meaning.specs.State.{State, Result, Run, carry, after, value_then, on_values, on_value, on_word, on_long}
use Rattle.source_meaning.specs.Meaning.{value, values, all_of, some_of, path, operations, long_operations}
use Rattle.machine_rules.specs.State.{Store, Stepped}
use Rattle.machine_rules.specs.Words.{push}
use Rattle.code_rules.specs.CodeFor as row
use Rattle.code_rules.specs.Reading.{Place, beyond, deeper, past, past_all}
use Rattle.code_rules.specs.Slots.{fields_of}
use Rattle.code_rules.proofs.Whole.{expr_run, exprs_run, operations_run, long_operations_run, path_run, branch_run, operands_run}
use Rattle.agreement_rules.proofs.Lifted.{in_order}
use Rattle.agreement_rules.specs.Reaches.{Reaches}
use Rattle.agreement_laws.specs.World.{World, Ready}
use Rattle.agreement_laws.specs.Standing.{Frames}
use Rattle.agreement_laws.specs.Relation.{Agrees, standing}
use Rattle.agreement_laws.specs.Contexts.{Site, InPlace, Inside}
use Rattle.agreement_laws.specs.Answers.{Valued}
use Rattle.agreement_laws.specs.Promises as promise
use Rattle.agreement_laws.specs.Promises.{next, SignalsFollow, CallFollows, ValueFollows, ValuesFollow, PathFollows, OperationsFollow, LongOperationsFollow, BranchFollows, ExpressionsFollow}
use Rattle.agreement_laws.proofs.Branches.{Chose}
use Rattle.agreement_laws.proofs.Branches as led
use Rattle.agreement_laws.proofs.Calling.{call_row, raise_row}
use Rattle.agreement_laws.proofs.Fields.{variable_small, literal_row, field_row}
use Rattle.agreement_laws.proofs.Following.{valued_later, valued_out, word_on}
use Rattle.agreement_laws.proofs.Lists.{none_row, and_row, construct_row}
use Rattle.agreement_laws.proofs.LongBranches.{long_relation_led_row}
use Rattle.agreement_laws.proofs.LongWords.{long_here, long_then, long_number_row, negate_long_row, converted_row, relate_long_row, within_long_row, long_operation_row}
use Rattle.agreement_laws.proofs.Moving.{place_part, place_first, run_order, inside_part}
use Rattle.agreement_laws.proofs.Owning.{law, own_gives}
use Rattle.agreement_laws.proofs.Texts.{text_fits}
use Rattle.agreement_laws.proofs.Variables.{variable_row, element_row}
use Rattle.agreement_laws.proofs.Suffixed.{operation_row, no_suffix_row, suffix_field_row, suffix_index_row, field_within, fields_within, field_has_words, element_has_words, variable_has_words}
use Rattle.agreement_laws.proofs.Words.{number_row, negate_row, not_row, checked_row, relate_row, within_row, length_row, byte_row, word_here}

pub as_kinds : (W : World) (bound : ℕ) (K : Site) (around : List ℕ) (ks js : Kinds) (b : ℕ) (rest : List ℕ) (s : Stepped) (r : Result) → ks ≡ js
    → Valued W bound K around js b rest s r → Valued W bound K around ks b rest s r
as_kinds W bound K around ks js b rest s r e h = subst (λ x. Valued W bound K around x b rest s r) (sym e) h

one_words : (k : Kind) → words_in_all (one k) ≡ words_in k
unfolding words_in_all one
one_words k = omega arith

-- what is constructed has as many words as its parts together
built_size : (Γ : Scope) (places : List ℕ) (es : Exprs) (k : Kind) (js all : Kinds) → HasWords k → Constructs k places all → ExprsIn Γ es js → Arranged places js all
    → words_in_all all ≡ words_in k
unfolding words_of ExprIn
built_size Γ places es k js all some built values arranged =
    sym (arranged_words places js all arranged) ∙ sym (sizes_agree.of_values Γ es js values)
    ∙ sizes_agree.of_expression Γ (Construct places es) (one k) (k, js, all, some, built, values, arranged, refl) ∙ one_words k

-- a word, and what gives a word in its place
pub word_then : (W : World) (n : ℕ) (K : Site) (around : List ℕ) (c b : ℕ) (rest : List ℕ) (s : Stepped) (r : Result) (k : ℕ → Run) → Valued W (suc n) K around a_word c rest s r
    → ((x : ℕ) (μ : Frames) (m : Store) → x < 65536 → Agrees W (suc n) K.ground μ m r.state → Valued W (suc n) K around a_word b rest (standing K.ground c (x ∷ rest) μ m) (k x r.state))
    → Valued W (suc n) K around a_word b rest s (value_then (λ vs. k (word (nth vs 0))) r.answer r.state)
word_then W n K around c b rest s r k h on =
    word_on W (suc n) K around (λ s r. Valued W (suc n) K around a_word b rest s r) (λ s t r k h. valued_later W (suc n) K around a_word b rest s t r k h)
    (λ s a σ h. valued_out W (suc n) K around a_word b rest s a σ h) c rest k s r h on

module _ (W : World) (ready : Ready W) (n : ℕ) (signals : SignalsFollow W n) (calls : CallFollows W n) where
  mutual
    unfolding value values all_of some_of path operations long_operations on_value on_word on_long on_values after carry hidden_expr hidden_exprs hidden_suffixes hidden_operations hidden_interval ExprIn ExprsIn WordsIn SuffixesIn OperationsIn LongOperationsIn IntervalIn LongIntervalIn truth

    pub value_follows : (e : Expr) → ValueFollows W n e
    value_follows (Number x) K w ks a b rest μ m σ (row.number own) sound place inside now =
        as_kinds W (suc n) K w.around ks a_word b rest (promise.here K a rest μ m) (value W.program (next W n) (Number x) K.meant σ) sound.1
        (number_row W n K w place x a b rest μ m σ sound.0 own now)
    value_follows (LongNumber x) K w ks a b rest μ m σ (row.long_number own) sound place inside now =
        as_kinds W (suc n) K w.around ks a_long b rest (promise.here K a rest μ m) (value W.program (next W n) (LongNumber x) K.meant σ) sound.1
        (long_number_row W n K w place x a b rest μ m σ sound.0 own now)
    value_follows (Literal k) K w ks a b rest μ m σ (row.literal own) sound place inside now =
        as_kinds W (suc n) K w.around ks (one Texts) b rest (promise.here K a rest μ m) (value W.program (next W n) (Literal k) K.meant σ) sound.1
        (literal_row W n K w (w.slot + 0) place k a b rest μ m σ sound.0 own now)
    value_follows (Variable h s words) K w ks a b rest μ m σ (row.variable static own) sound place inside now =
        as_kinds W (suc n) K w.around ks (one sound.1) b rest (promise.here K a rest μ m) (value W.program (next W n) (Variable h s words) K.meant σ) sound.5
        (variable_row W n K w (w.slot + hidden_suffixes s) place h s words sound.0 sound.1 a b rest μ m σ static sound.2 sound.3 sound.4 own now)
    value_follows (Variable h s words) K w ks a b rest μ m σ (row.element c d dynamic own code load) sound place inside now =
        let s0 = promise.here K a rest μ m in
        let small = variable_small W K place.code_of h sound.0 place.scope_in sound.2 in
        let low = in_order own in let mid = run_order (path_run code) in let high = in_order load in
        let g = own_gives W K w (w.slot + hidden_suffixes s) place (suc n) μ m σ (i.Lit (fields_of s) ∷ []) a c [] (fields_of s ∷ []) rest own
        ((law W K w (w.slot + hidden_suffixes s) place μ m).number_leaf (fields_of s)) now in
        let f = path_follows s K (deeper 1 w) sound.0 sound.1 c d 0 rest g.frames g.store σ code sound.3 (variable_has_words W K place.code_of h sound.0 place.scope_in sound.2) (omega (arith, small)) place
        (inside_part W K.ground a b c d low high inside) g.agrees in
        let r = path W.program (next W n) s K.meant σ in
        as_kinds W (suc n) K w.around ks (one sound.1) b rest s0 (value W.program (next W n) (Variable h s words) K.meant σ) sound.5
        (valued_later W (suc n) K w.around (one sound.1) b rest s0 (standing K.ground c ((0 + fields_of s) ∷ rest) g.frames g.store) (value W.program (next W n) (Variable h s words) K.meant σ)
        (subst (λ o. Reaches W.image s0 (standing K.ground c (o ∷ rest) g.frames g.store)) (omega arith) g.reaches)
        (element_row W n K (deeper 1 w) (w.slot + hidden_suffixes s) place h words sound.0 sound.1 d b rest (standing K.ground c ((0 + fields_of s) ∷ rest) g.frames g.store) r
        sound.2 sound.4 load f))
    value_follows (FieldOf e parts) K w ks a b rest μ m σ (row.field_of c behind code size own) sound place inside now =
        let low = run_order (expr_run code) in let high = in_order own in
        let words : words_of e ≡ words_in sound.1 = sizes_agree.of_expression K.scope e (one sound.1) sound.3 ∙ one_words sound.1 in
        as_kinds W (suc n) K w.around ks (one sound.2) b rest (promise.here K a rest μ m) (value W.program (next W n) (FieldOf e parts) K.meant σ) sound.5
        (field_row W n K (past e w) (w.slot + hidden_expr e + 0) (place_part W K w (hidden_expr e) (hidden_expr e) 0 (omega arith) place) parts sound.1 sound.2 behind c b rest
        (promise.here K a rest μ m) (value W.program (next W n) e K.meant σ) sound.0 sound.4 (size ∙ words) own
        (value_follows e K w (one sound.1) a c rest μ m σ code sound.3 place (inside_part W K.ground a b a c (omega arith) high inside) now))
    value_follows (LengthOf e) K w ks a b rest μ m σ (row.length_of c code own) sound place inside now =
        let low = run_order (expr_run code) in let high = in_order own in
        as_kinds W (suc n) K w.around ks a_word b rest (promise.here K a rest μ m) (value W.program (next W n) (LengthOf e) K.meant σ) sound.1
        (length_row W n K (past e w) (place_part W K w (hidden_expr e) (hidden_expr e) 0 (omega arith) place) c b rest (inside_part W K.ground a b c b low (omega arith) inside)
        (text_fits W ready) (promise.here K a rest μ m) (value W.program (next W n) e K.meant σ)
        (value_follows e K w (one Texts) a c rest μ m σ code sound.0 place (inside_part W K.ground a b a c (omega arith) high inside) now) own)
    value_follows (ByteOf e x) K w ks a b rest μ m σ (row.byte_of c d code second own) sound place inside now =
        let low = run_order (expr_run code) in let mid = run_order (expr_run second) in let high = in_order own in
        let r = value W.program (next W n) e K.meant σ in
        as_kinds W (suc n) K w.around ks a_word b rest (promise.here K a rest μ m) (value W.program (next W n) (ByteOf e x) K.meant σ) sound.2
        (byte_row W n K (past x (past e w)) (place_part W K (past e w) (hidden_expr x) (hidden_expr x) 0 (omega arith)
        (place_part W K w (hidden_expr e + hidden_expr x) (hidden_expr e) (hidden_expr x) (omega arith) place)) d b rest
        (inside_part W K.ground a b d b (omega (arith, low, mid)) (omega arith) inside) signals.raise (text_fits W ready) c (value W.program (next W n) x K.meant)
        (promise.here K a rest μ m) r
        (value_follows e K w (one Texts) a c rest μ m σ code sound.0 (place_first W K w (hidden_expr e + hidden_expr x) (hidden_expr e) (omega arith) place)
        (inside_part W K.ground a b a c (omega arith) (omega (arith, mid, high)) inside) now)
        (λ words ν l agrees. value_follows x K (past e w) a_word c d (push words rest) ν l r.state second sound.1
        (place_part W K w (hidden_expr e + hidden_expr x) (hidden_expr e) (hidden_expr x) (omega arith) place) (inside_part W K.ground a b c d low high inside) agrees) own)
    value_follows (Checked range e) K w ks a b rest μ m σ (row.checked c code own) sound place inside now =
        let low = run_order (expr_run code) in let high = in_order own in
        as_kinds W (suc n) K w.around ks a_word b rest (promise.here K a rest μ m) (value W.program (next W n) (Checked range e) K.meant σ) sound.2
        (checked_row W n K (past e w) (place_part W K w (hidden_expr e) (hidden_expr e) 0 (omega arith) place) c b rest (inside_part W K.ground a b c b low (omega arith) inside)
        signals.raise range (promise.here K a rest μ m) (value W.program (next W n) e K.meant σ)
        (value_follows e K w a_word a c rest μ m σ code sound.1 place (inside_part W K.ground a b a c (omega arith) high inside) now) own)
    value_follows (Converted conversion e) K w ks a b rest μ m σ (row.converted c code own) sound place inside now =
        let low = run_order (expr_run code) in let high = in_order own in
        as_kinds W (suc n) K w.around ks (one sound.2) b rest (promise.here K a rest μ m) (value W.program (next W n) (Converted conversion e) K.meant σ) sound.5
        (converted_row W n K (past e w) (place_part W K w (hidden_expr e) (hidden_expr e) 0 (omega arith) place) c b rest (inside_part W K.ground a b c b low (omega arith) inside)
        signals.raise conversion sound.1 sound.2 (promise.here K a rest μ m) (value W.program (next W n) e K.meant σ) sound.3
        (value_follows e K w (one sound.1) a c rest μ m σ code sound.4 place (inside_part W K.ground a b a c (omega arith) high inside) now) own)
    value_follows (Operate e os) K w ks a b rest μ m σ (row.operate c code ops) sound place inside now =
        let low = run_order (expr_run code) in let high = run_order (operations_run ops) in
        let r = value W.program (next W n) e K.meant σ in
        as_kinds W (suc n) K w.around ks a_word b rest (promise.here K a rest μ m) (value W.program (next W n) (Operate e os) K.meant σ) sound.2
        (word_then W n K w.around c b rest (promise.here K a rest μ m) r (λ x. operations W.program (next W n) os K.meant x)
        (value_follows e K w a_word a c rest μ m σ code sound.0 (place_first W K w (hidden_expr e + hidden_operations os) (hidden_expr e) (omega arith) place)
        (inside_part W K.ground a b a c (omega arith) high inside) now)
        (λ x ν l lt agrees. operations_follow os K (past e w) c b x rest ν l r.state ops sound.1 lt
        (place_part W K w (hidden_expr e + hidden_operations os) (hidden_expr e) (hidden_operations os) (omega arith) place) (inside_part W K.ground a b c b low (omega arith) inside) agrees))
    value_follows (OperateLong e os) K w ks a b rest μ m σ (row.operate_long c code ops) sound place inside now =
        let low = run_order (expr_run code) in let high = run_order (long_operations_run ops) in
        let r = value W.program (next W n) e K.meant σ in
        as_kinds W (suc n) K w.around ks a_long b rest (promise.here K a rest μ m) (value W.program (next W n) (OperateLong e os) K.meant σ) sound.2
        (long_then W n K w.around c b rest (promise.here K a rest μ m) r (λ x. long_operations W.program (next W n) os K.meant x)
        (value_follows e K w a_long a c rest μ m σ code sound.0 (place_first W K w (hidden_expr e + hidden_operations os) (hidden_expr e) (omega arith) place)
        (inside_part W K.ground a b a c (omega arith) high inside) now)
        (λ x ν l lt agrees. long_operations_follow os K (past e w) c b x rest ν l r.state ops sound.1 lt
        (place_part W K w (hidden_expr e + hidden_operations os) (hidden_expr e) (hidden_operations os) (omega arith) place) (inside_part W K.ground a b c b low (omega arith) inside) agrees))
    value_follows (Negate e) K w ks a b rest μ m σ (row.negate c code own) sound place inside now =
        let low = run_order (expr_run code) in let high = in_order own in
        as_kinds W (suc n) K w.around ks a_word b rest (promise.here K a rest μ m) (value W.program (next W n) (Negate e) K.meant σ) sound.1
        (negate_row W n K (past e w) (place_part W K w (hidden_expr e) (hidden_expr e) 0 (omega arith) place) c b rest (inside_part W K.ground a b c b low (omega arith) inside)
        (promise.here K a rest μ m) (value W.program (next W n) e K.meant σ)
        (value_follows e K w a_word a c rest μ m σ code sound.0 place (inside_part W K.ground a b a c (omega arith) high inside) now) own)
    value_follows (NegateLong e) K w ks a b rest μ m σ (row.negate_long c code own) sound place inside now =
        let low = run_order (expr_run code) in let high = in_order own in
        as_kinds W (suc n) K w.around ks a_long b rest (promise.here K a rest μ m) (value W.program (next W n) (NegateLong e) K.meant σ) sound.1
        (negate_long_row W n K (past e w) (place_part W K w (hidden_expr e) (hidden_expr e) 0 (omega arith) place) c b rest (inside_part W K.ground a b c b low (omega arith) inside)
        (promise.here K a rest μ m) (value W.program (next W n) e K.meant σ)
        (value_follows e K w a_long a c rest μ m σ code sound.0 place (inside_part W K.ground a b a c (omega arith) high inside) now) own)
    value_follows (Relate base o d e) K w ks a b rest μ m σ (row.relate c f first second own) sound place inside now =
        let low = run_order (expr_run first) in let mid = run_order (expr_run second) in let high = in_order own in
        let r = value W.program (next W n) d K.meant σ in
        as_kinds W (suc n) K w.around ks a_word b rest (promise.here K a rest μ m) (value W.program (next W n) (Relate base o d e) K.meant σ) sound.2
        (relate_row W n K (past e (past d w)) (place_part W K (past d w) (hidden_expr e) (hidden_expr e) 0 (omega arith)
        (place_part W K w (hidden_expr d + hidden_expr e) (hidden_expr d) (hidden_expr e) (omega arith) place)) f b rest
        (inside_part W K.ground a b f b (omega (arith, low, mid)) (omega arith) inside) base o c (value W.program (next W n) e K.meant) (promise.here K a rest μ m) r
        (value_follows d K w a_word a c rest μ m σ first sound.0 (place_first W K w (hidden_expr d + hidden_expr e) (hidden_expr d) (omega arith) place)
        (inside_part W K.ground a b a c (omega arith) (omega (arith, mid, high)) inside) now)
        (λ x ν l agrees. value_follows e K (past d w) a_word c f (x ∷ rest) ν l r.state second sound.1
        (place_part W K w (hidden_expr d + hidden_expr e) (hidden_expr d) (hidden_expr e) (omega arith) place) (inside_part W K.ground a b c f low high inside) agrees) own)
    value_follows (RelateLong base o d e) K w ks a b rest μ m σ (row.relate_long c f first second own) sound place inside now =
        let low = run_order (expr_run first) in let mid = run_order (expr_run second) in let high = in_order own in
        let r = value W.program (next W n) d K.meant σ in
        as_kinds W (suc n) K w.around ks a_word b rest (promise.here K a rest μ m) (value W.program (next W n) (RelateLong base o d e) K.meant σ) sound.2
        (relate_long_row W n K (past e (past d w)) (place_part W K (past d w) (hidden_expr e) (hidden_expr e) 0 (omega arith)
        (place_part W K w (hidden_expr d + hidden_expr e) (hidden_expr d) (hidden_expr e) (omega arith) place)) f b rest
        (inside_part W K.ground a b f b (omega (arith, low, mid)) (omega arith) inside) base o c (value W.program (next W n) e K.meant) (promise.here K a rest μ m) r
        (value_follows d K w a_long a c rest μ m σ first sound.0 (place_first W K w (hidden_expr d + hidden_expr e) (hidden_expr d) (omega arith) place)
        (inside_part W K.ground a b a c (omega arith) (omega (arith, mid, high)) inside) now)
        (λ x ν l agrees. value_follows e K (past d w) a_long c f (push (two_words x) rest) ν l r.state second sound.1
        (place_part W K w (hidden_expr d + hidden_expr e) (hidden_expr d) (hidden_expr e) (omega arith) place) (inside_part W K.ground a b c f low high inside) agrees) own)
    value_follows (Within bases e (Between d p f q)) K w ks a b rest μ m σ (row.within c g code (row.bounds h first last) own) sound place inside now =
        let low = run_order (expr_run code) in let mid = run_order (expr_run first) in let more = run_order (expr_run last) in let high = in_order own in
        let r = value W.program (next W n) e K.meant σ in
        let words = hidden_expr e + (hidden_expr d + hidden_expr f) in
        let r2 = value W.program (next W n) d K.meant r.state in
        let two = place_part W K w words (hidden_expr e) (hidden_expr d + hidden_expr f) (omega arith) place in
        let three = place_part W K (past e w) (hidden_expr d + hidden_expr f) (hidden_expr d) (hidden_expr f) (omega arith) two in
        as_kinds W (suc n) K w.around ks a_word b rest (promise.here K a rest μ m) (value W.program (next W n) (Within bases e (Between d p f q)) K.meant σ) sound.2
        (within_row W n K (past f (past d (past e w))) (place_part W K (past d (past e w)) (hidden_expr f) (hidden_expr f) 0 (omega arith) three) g b rest
        (inside_part W K.ground a b g b (omega (arith, low, mid, more)) (omega arith) inside) bases p q c h (value W.program (next W n) d K.meant) (value W.program (next W n) f K.meant)
        (promise.here K a rest μ m) r
        (value_follows e K w a_word a c rest μ m σ code sound.0 (place_first W K w words (hidden_expr e) (omega arith) place)
        (inside_part W K.ground a b a c (omega arith) (omega (arith, mid, more, high)) inside) now)
        (λ x ν l agrees. value_follows d K (past e w) a_word c h (x ∷ rest) ν l r.state first sound.1.0
        (place_first W K (past e w) (hidden_expr d + hidden_expr f) (hidden_expr d) (omega arith) two) (inside_part W K.ground a b c h low (omega (arith, more, high)) inside) agrees)
        (λ x y ν l agrees. value_follows f K (past d (past e w)) a_word h g (y ∷ x ∷ rest) ν l r2.state last sound.1.1 three
        (inside_part W K.ground a b h g (omega (arith, low, mid)) high inside) agrees) own)
    value_follows (WithinLong bases e (Between d p f q)) K w ks a b rest μ m σ (row.within_long c g code (row.bounds h first last) own) sound place inside now =
        let low = run_order (expr_run code) in let mid = run_order (expr_run first) in let more = run_order (expr_run last) in let high = in_order own in
        let r = value W.program (next W n) e K.meant σ in
        let words = hidden_expr e + (hidden_expr d + hidden_expr f) in
        let r2 = value W.program (next W n) d K.meant r.state in
        let two = place_part W K w words (hidden_expr e) (hidden_expr d + hidden_expr f) (omega arith) place in
        let three = place_part W K (past e w) (hidden_expr d + hidden_expr f) (hidden_expr d) (hidden_expr f) (omega arith) two in
        as_kinds W (suc n) K w.around ks a_word b rest (promise.here K a rest μ m) (value W.program (next W n) (WithinLong bases e (Between d p f q)) K.meant σ) sound.2
        (within_long_row W n K (past f (past d (past e w))) (place_part W K (past d (past e w)) (hidden_expr f) (hidden_expr f) 0 (omega arith) three) g b rest
        (inside_part W K.ground a b g b (omega (arith, low, mid, more)) (omega arith) inside) bases p q c h (value W.program (next W n) d K.meant) (value W.program (next W n) f K.meant)
        (promise.here K a rest μ m) r
        (value_follows e K w a_long a c rest μ m σ code sound.0 (place_first W K w words (hidden_expr e) (omega arith) place)
        (inside_part W K.ground a b a c (omega arith) (omega (arith, mid, more, high)) inside) now)
        (λ x ν l agrees. value_follows d K (past e w) a_long c h (push (two_words x) rest) ν l r.state first sound.1.0
        (place_first W K (past e w) (hidden_expr d + hidden_expr f) (hidden_expr d) (omega arith) two) (inside_part W K.ground a b c h low (omega (arith, more, high)) inside) agrees)
        (λ x y ν l agrees. value_follows f K (past d (past e w)) a_long h g (push (two_words y) (push (two_words x) rest)) ν l r2.state last sound.1.1 three
        (inside_part W K.ground a b h g (omega (arith, low, mid)) high inside) agrees) own)
    value_follows (Not e) K w ks a b rest μ m σ (row.negation c code own) sound place inside now =
        let low = run_order (expr_run code) in let high = in_order own in
        as_kinds W (suc n) K w.around ks a_word b rest (promise.here K a rest μ m) (value W.program (next W n) (Not e) K.meant σ) sound.1
        (not_row W n K (past e w) (place_part W K w (hidden_expr e) (hidden_expr e) 0 (omega arith) place) c b rest (inside_part W K.ground a b c b low (omega arith) inside)
        (promise.here K a rest μ m) (value W.program (next W n) e K.meant σ)
        (value_follows e K w a_word a c rest μ m σ code sound.0 place (inside_part W K.ground a b a c (omega arith) high inside) now) own)
    value_follows (AllOf es) K w ks a b rest μ m σ (row.all_of c off code yes_own no_own) sound place inside now =
        let low = run_order (operands_run code) in let mid = in_order yes_own in let high = in_order no_own in
        as_kinds W (suc n) K w.around ks a_word b rest (promise.here K a rest μ m) (value W.program (next W n) (AllOf es) K.meant σ) sound.2
        (led.chosen_value_row W (suc n) K w (w.slot + hidden_exprs es) place false off c b rest (promise.here K a rest μ m) (all_of W.program (next W n) es K.meant σ)
        (all_follows es K w off a c rest μ m σ code sound.1 place (inside_part W K.ground a b a c (omega arith) (omega (arith, mid, high)) inside) now)
        (λ ν l τ agrees. led.pushed_goes W (suc n) K w (w.slot + hidden_exprs es) place 1 c b off rest ν l τ yes_own agrees)
        (λ ν l τ agrees. own_gives W K w (w.slot + hidden_exprs es) place (suc n) ν l τ (i.Lit 0 ∷ []) off b [] (0 ∷ []) rest no_own
        ((law W K w (w.slot + hidden_exprs es) place ν l).number_leaf 0) agrees))
    value_follows (SomeOf es) K w ks a b rest μ m σ (row.some_of c on code no_own yes_own) sound place inside now =
        let low = run_order (operands_run code) in let mid = in_order no_own in let high = in_order yes_own in
        as_kinds W (suc n) K w.around ks a_word b rest (promise.here K a rest μ m) (value W.program (next W n) (SomeOf es) K.meant σ) sound.2
        (led.chosen_value_row W (suc n) K w (w.slot + hidden_exprs es) place true on c b rest (promise.here K a rest μ m) (some_of W.program (next W n) es K.meant σ)
        (some_follows es K w on a c rest μ m σ code sound.1 place (inside_part W K.ground a b a c (omega arith) (omega (arith, mid, high)) inside) now)
        (λ ν l τ agrees. led.pushed_goes W (suc n) K w (w.slot + hidden_exprs es) place 0 c b on rest ν l τ no_own agrees)
        (λ ν l τ agrees. own_gives W K w (w.slot + hidden_exprs es) place (suc n) ν l τ (i.Lit 1 ∷ []) on b [] (1 ∷ []) rest yes_own
        ((law W K w (w.slot + hidden_exprs es) place ν l).number_leaf 1) agrees))
    value_follows (Construct places es) K w ks a b rest μ m σ (row.construct c code own) sound place inside now =
        let low = run_order (exprs_run code) in let high = in_order own in
        let size = built_size K.scope places es sound.0 sound.1 sound.2 sound.3 sound.4 sound.5 sound.6 in
        as_kinds W (suc n) K w.around ks (one sound.0) b rest (promise.here K a rest μ m) (value W.program (next W n) (Construct places es) K.meant σ) sound.7
        (construct_row W n K (past_all es w) (w.slot + hidden_exprs es + 0) (place_part W K w (hidden_exprs es) (hidden_exprs es) 0 (omega arith) place) places es sound.0 sound.1 sound.2 c b rest
        (promise.here K a rest μ m) (values W.program (next W n) es K.meant σ) sound.5 sound.6 sound.4 size own
        (values_follow es K w sound.1 a c rest μ m σ code sound.5 place (inside_part W K.ground a b a c (omega arith) high inside) now))
    value_follows (Call callee places es words ph) K w ks a b rest μ m σ (row.call {v = v} c d code own in_phrase own_call) sound place inside now =
        let low = run_order (exprs_run code) in let mid = in_order own in let high = in_order own_call in
        as_kinds W (suc n) K w.around ks (kinds_of sound.0.gives) b rest (promise.here K a rest μ m) (value W.program (next W n) (Call callee places es words ph) K.meant σ) sound.5
        (call_row W n K (past_all es w) v ph signals.phrase (place_part W K w (hidden_exprs es + hidden_phrase ph) (hidden_exprs es) (hidden_phrase ph) (omega arith) place) calls
        callee sound.0 places es sound.1 c d b rest (promise.here K a rest μ m) (values W.program (next W n) es K.meant σ) sound.2 sound.3 sound.4 sound.7 own in_phrase own_call
        (inside_part W K.ground a b d b (omega (arith, low, mid)) (omega arith) inside)
        (values_follow es K w sound.1 a c rest μ m σ code sound.3 (place_first W K w (hidden_exprs es + hidden_phrase ph) (hidden_exprs es) (omega arith) place)
        (inside_part W K.ground a b a c (omega arith) (omega (arith, mid, high)) inside) now))
    value_follows (Raise raised places es words ph) K w ks a b rest μ m σ (row.raise {v = v} c d code own in_phrase own_raise) sound place inside now =
        let low = run_order (exprs_run code) in let mid = in_order own in let high = in_order own_raise in
        raise_row W n K (past_all es w) v ph signals.phrase (place_part W K w (hidden_exprs es + hidden_phrase ph) (hidden_exprs es) (hidden_phrase ph) (omega arith) place) signals.raised
        raised sound.0 ks places es sound.1 c d b rest (promise.here K a rest μ m) (values W.program (next W n) es K.meant σ) sound.2 sound.3 sound.4 sound.6 own in_phrase own_raise
        (inside_part W K.ground a b d b (omega (arith, low, mid)) (omega arith) inside)
        (values_follow es K w sound.1 a c rest μ m σ code sound.3 (place_first W K w (hidden_exprs es + hidden_phrase ph) (hidden_exprs es) (omega arith) place)
        (inside_part W K.ground a b a c (omega arith) (omega (arith, mid, high)) inside) now)

    pub values_follow : (es : Exprs) → ValuesFollow W n es
    values_follow NoExprs K w ks a b rest μ m σ row.no_values sound place inside now =
        as_kinds W (suc n) K w.around ks NoKinds a rest (promise.here K a rest μ m) (values W.program (next W n) NoExprs K.meant σ) sound (none_row W (suc n) K w.around a rest μ m σ now)
    values_follow (AndExpr e es) K w ks a b rest μ m σ (row.and_value c code codes) sound place inside now =
        let low = run_order (expr_run code) in let high = run_order (exprs_run codes) in
        let r = value W.program (next W n) e K.meant σ in
        as_kinds W (suc n) K w.around ks (AndKind sound.0 sound.1) b rest (promise.here K a rest μ m) (values W.program (next W n) (AndExpr e es) K.meant σ) sound.4
        (and_row W (suc n) K w.around sound.0 sound.1 c b rest (values W.program (next W n) es K.meant) (promise.here K a rest μ m) r
        (value_follows e K w (one sound.0) a c rest μ m σ code sound.2 (place_first W K w (hidden_expr e + hidden_exprs es) (hidden_expr e) (omega arith) place)
        (inside_part W K.ground a b a c (omega arith) high inside) now)
        (λ words ν l agrees. values_follow es K (past e w) sound.1 c b (push words rest) ν l r.state codes sound.3
        (place_part W K w (hidden_expr e + hidden_exprs es) (hidden_expr e) (hidden_exprs es) (omega arith) place) (inside_part W K.ground a b c b low (omega arith) inside) agrees))

    pub operations_follow : (os : Operations) → OperationsFollow W n os
    operations_follow NoOperation K w a b x rest μ m σ row.no_operation sound lt place inside now = word_here W (suc n) K w.around a rest x μ m σ lt now
    operations_follow (Then range o e os) K w a b x rest μ m σ (row.operation c d f check code own more) sound lt place inside now =
        let low = in_order check in let mid = run_order (expr_run code) in let high = in_order own in let last = run_order (operations_run more) in
        operation_row W n K w (w.slot + (hidden_expr e + hidden_operations os)) place signals.raise range o e x c d f b rest (value W.program (next W n) e K.meant)
        (λ y. operations W.program (next W n) os K.meant y) a μ m σ lt check own (inside_part W K.ground a b a c (omega arith) (omega (arith, mid, high, last)) inside)
        (inside_part W K.ground a b d f (omega (arith, low, mid)) (omega (arith, last)) inside)
        (place_part W K w (hidden_expr e + hidden_operations os) (hidden_expr e) 0 (omega arith) place) now
        (λ left ν l agrees. value_follows e K w a_word c d (left ∷ rest) ν l σ code sound.1 (place_first W K w (hidden_expr e + hidden_operations os) (hidden_expr e) (omega arith) place)
        (inside_part W K.ground a b c d low (omega (arith, high, last)) inside) agrees)
        (λ y ν l less agrees. operations_follow os K (beyond (hidden_expr e) w) f b y rest ν l (value W.program (next W n) e K.meant σ).state more sound.2 less
        (place_part W K w (hidden_expr e + hidden_operations os) (hidden_expr e) (hidden_operations os) (omega arith) place)
        (inside_part W K.ground a b f b (omega (arith, low, mid, high)) (omega arith) inside) agrees)

    pub long_operations_follow : (os : Operations) → LongOperationsFollow W n os
    long_operations_follow NoOperation K w a b x rest μ m σ row.no_long_operation sound lt place inside now = long_here W (suc n) K w.around a rest x μ m σ lt now
    long_operations_follow (Then range o e os) K w a b x rest μ m σ (row.long_operation c d code own more) sound lt place inside now =
        let mid = run_order (expr_run code) in let high = in_order own in let last = run_order (long_operations_run more) in
        long_operation_row W n K w signals.raise o e x c d b rest (value W.program (next W n) e K.meant)
        (λ y. long_operations W.program (next W n) os K.meant y) a μ m σ lt own
        (inside_part W K.ground a b c d mid last inside)
        (place_part W K w (hidden_expr e + hidden_operations os) (hidden_expr e) 0 (omega arith) place)
        (value_follows e K w a_long a c (push (two_words x) rest) μ m σ code sound.2 (place_first W K w (hidden_expr e + hidden_operations os) (hidden_expr e) (omega arith) place)
        (inside_part W K.ground a b a c (omega arith) (omega (arith, high, last)) inside) now)
        (λ y ν l less agrees. long_operations_follow os K (beyond (hidden_expr e) w) d b y rest ν l (value W.program (next W n) e K.meant σ).state more sound.3 less
        (place_part W K w (hidden_expr e + hidden_operations os) (hidden_expr e) (hidden_operations os) (omega arith) place)
        (inside_part W K.ground a b d b (omega (arith, mid, high)) (omega arith) inside) agrees)

    pub path_follows : (s : Suffixes) → PathFollows W n s
    path_follows NoSuffix K w j k a b first rest μ m σ row.here sound some small place inside now = no_suffix_row W n K w.around j k a first rest μ m σ sound now
    path_follows (Field f offset s) K w j k a b first rest μ m σ (row.field code) sound some small place inside now =
        let within = field_within sound.0 f offset sound.1 j sound.2 sound.3 in
        suffix_field_row W n K w.around sound.0 sound.1 j k f offset a b first rest s (path W.program (next W n) s K.meant) μ m σ sound.2 sound.3
        (path_follows s K w sound.1 k a b (first + offset) rest μ m σ code sound.4 (field_has_words sound.0 f sound.1 j sound.2 sound.3.is_there some) (omega (arith, small, within)) place inside now)
    path_follows (Index range lowest count words e s) K w j k a b first rest μ m σ (row.index c d code own more) sound some small place inside now =
        let low = run_order (expr_run code) in let mid = in_order own in let high = run_order (path_run more) in
        suffix_index_row W n K (past e w) (w.slot + hidden_expr e + 0)
        (place_part W K w (hidden_expr e + hidden_suffixes s) (hidden_expr e) 0 (omega arith) place) signals.raise range lowest count words s sound.0 j k c d b first rest
        (promise.here K a ((first + fields_of s) ∷ rest) μ m) (value W.program (next W n) e K.meant σ) (path W.program (next W n) s K.meant) sound.1 sound.2 small
        (fields_within K.scope s sound.0 k (element_has_words count sound.0 j sound.1 some) sound.7) own (inside_part W K.ground a b c d low high inside)
        (value_follows e K w a_word a c ((first + fields_of s) ∷ rest) μ m σ code sound.6 (place_first W K w (hidden_expr e + hidden_suffixes s) (hidden_expr e) (omega arith) place)
        (inside_part W K.ground a b a c (omega arith) (omega (arith, mid, high)) inside) now)
        (λ next_first ν l less agrees. path_follows s K (beyond (hidden_expr e) w) sound.0 k d b next_first rest ν l (value W.program (next W n) e K.meant σ).state more sound.7 (element_has_words count sound.0 j sound.1 some) less
        (place_part W K w (hidden_expr e + hidden_suffixes s) (hidden_expr e) (hidden_suffixes s) (omega arith) place) (inside_part W K.ground a b d b (omega (arith, low, mid)) (omega arith) inside) agrees)

    pub branch_follows : (e : Expr) → ValueFollows W n e → BranchFollows W n e
    branch_follows (Not e) follows K w sense target a b rest μ m σ (row.on_negation code) sound place inside now =
        led.turned_row W (suc n) K w.around sense target b rest (promise.here K a rest μ m) (value W.program (next W n) e K.meant σ)
        (branch_follows e (value_follows e) K w (not sense) target a b rest μ m σ code sound.0 place inside now)
    branch_follows (Relate base o d e) follows K w sense target a b rest μ m σ (row.on_relation c f first second own) sound place inside now =
        let low = run_order (expr_run first) in let mid = run_order (expr_run second) in let high = in_order own in
        let r = value W.program (next W n) d K.meant σ in
        led.relation_led_row W (suc n) K (past e (past d w)) (w.slot + hidden_expr d + hidden_expr e + 0)
        (place_part W K (past d w) (hidden_expr e) (hidden_expr e) 0 (omega arith) (place_part W K w (hidden_expr d + hidden_expr e) (hidden_expr d) (hidden_expr e) (omega arith) place))
        base o sense target c f b rest (value W.program (next W n) e K.meant) (promise.here K a rest μ m) r
        (value_follows d K w a_word a c rest μ m σ first sound.0 (place_first W K w (hidden_expr d + hidden_expr e) (hidden_expr d) (omega arith) place)
        (inside_part W K.ground a b a c (omega arith) (omega (arith, mid, high)) inside) now)
        (λ x ν l agrees. value_follows e K (past d w) a_word c f (x ∷ rest) ν l r.state second sound.1
        (place_part W K w (hidden_expr d + hidden_expr e) (hidden_expr d) (hidden_expr e) (omega arith) place) (inside_part W K.ground a b c f low high inside) agrees) own
    branch_follows (RelateLong base o d e) follows K w sense target a b rest μ m σ (row.on_long_relation c f first second own) sound place inside now =
        let low = run_order (expr_run first) in let mid = run_order (expr_run second) in let high = in_order own in
        let r = value W.program (next W n) d K.meant σ in
        long_relation_led_row W (suc n) K (past e (past d w)) (w.slot + hidden_expr d + hidden_expr e + 0)
        (place_part W K (past d w) (hidden_expr e) (hidden_expr e) 0 (omega arith) (place_part W K w (hidden_expr d + hidden_expr e) (hidden_expr d) (hidden_expr e) (omega arith) place))
        base o sense target c f b rest (value W.program (next W n) e K.meant) (promise.here K a rest μ m) r
        (value_follows d K w a_long a c rest μ m σ first sound.0 (place_first W K w (hidden_expr d + hidden_expr e) (hidden_expr d) (omega arith) place)
        (inside_part W K.ground a b a c (omega arith) (omega (arith, mid, high)) inside) now)
        (λ x ν l agrees. value_follows e K (past d w) a_long c f (push (two_words x) rest) ν l r.state second sound.1
        (place_part W K w (hidden_expr d + hidden_expr e) (hidden_expr d) (hidden_expr e) (omega arith) place) (inside_part W K.ground a b c f low high inside) agrees) own
    branch_follows (AllOf es) follows K w sense target a b rest μ m σ (row.unless_all code) sound place inside now =
        led.chosen_led W (suc n) K w.around false target b rest (promise.here K a rest μ m) (all_of W.program (next W n) es K.meant σ)
        (all_follows es K w target a b rest μ m σ code sound.1 place inside now)
    branch_follows (AllOf es) follows K w sense target a b rest μ m σ (row.if_all c code own) sound place inside now =
        let high = in_order own in
        led.chosen_turned_row W (suc n) K w (w.slot + hidden_exprs es) place false target c b rest (promise.here K a rest μ m) (all_of W.program (next W n) es K.meant σ)
        (all_follows es K w b a c rest μ m σ code sound.1 place (inside_part W K.ground a b a c (omega arith) high inside) now) own
    branch_follows (SomeOf es) follows K w sense target a b rest μ m σ (row.if_some code) sound place inside now =
        led.chosen_led W (suc n) K w.around true target b rest (promise.here K a rest μ m) (some_of W.program (next W n) es K.meant σ)
        (some_follows es K w target a b rest μ m σ code sound.1 place inside now)
    branch_follows (SomeOf es) follows K w sense target a b rest μ m σ (row.unless_some c code own) sound place inside now =
        let high = in_order own in
        led.chosen_turned_row W (suc n) K w (w.slot + hidden_exprs es) place true target c b rest (promise.here K a rest μ m) (some_of W.program (next W n) es K.meant σ)
        (some_follows es K w b a c rest μ m σ code sound.1 place (inside_part W K.ground a b a c (omega arith) high inside) now) own
    branch_follows e follows K w sense target a b rest μ m σ (row.on_value c code own) sound place inside now =
        let low = run_order (expr_run code) in let high = in_order own in
        led.value_led_row W (suc n) K (past e w) (w.slot + hidden_expr e + 0) (place_part W K w (hidden_expr e) (hidden_expr e) 0 (omega arith) place) sense target c b rest
        (promise.here K a rest μ m) (value W.program (next W n) e K.meant σ)
        (follows K w a_word a c rest μ m σ code sound place (inside_part W K.ground a b a c (omega arith) high inside) now) own

    pub all_follows : (es : Exprs) (K : Site) (w : Place) (target a b : ℕ) (rest : List ℕ) (μ : Frames) (m : Store) (σ : State) → row.OperandsCode K.code w es false target a b
        → WordsIn K.scope es → InPlace W K w (hidden_exprs es) → Inside W K.ground a b → Agrees W (suc n) K.ground μ m σ
        → Chose W (suc n) K w.around false target b rest (promise.here K a rest μ m) (all_of W.program (next W n) es K.meant σ)
    all_follows NoExprs K w target a b rest μ m σ row.no_operands sound place inside now = led.no_operand_row W (suc n) K w.around false target a rest μ m σ now
    all_follows (AndExpr e es) K w target a b rest μ m σ (row.and_operand c code codes) sound place inside now =
        let low = run_order (branch_run code) in let high = run_order (operands_run codes) in
        let r = value W.program (next W n) e K.meant σ in
        led.both_row W (suc n) K w.around target c b rest (all_of W.program (next W n) es K.meant) (promise.here K a rest μ m) r
        (branch_follows e (value_follows e) K w false target a c rest μ m σ code sound.0 (place_first W K w (hidden_expr e + hidden_exprs es) (hidden_expr e) (omega arith) place)
        (inside_part W K.ground a b a c (omega arith) high inside) now)
        (λ ν l agrees. all_follows es K (beyond (hidden_expr e) w) target c b rest ν l r.state codes sound.1
        (place_part W K w (hidden_expr e + hidden_exprs es) (hidden_expr e) (hidden_exprs es) (omega arith) place) (inside_part W K.ground a b c b low (omega arith) inside) agrees)

    pub some_follows : (es : Exprs) (K : Site) (w : Place) (target a b : ℕ) (rest : List ℕ) (μ : Frames) (m : Store) (σ : State) → row.OperandsCode K.code w es true target a b
        → WordsIn K.scope es → InPlace W K w (hidden_exprs es) → Inside W K.ground a b → Agrees W (suc n) K.ground μ m σ
        → Chose W (suc n) K w.around true target b rest (promise.here K a rest μ m) (some_of W.program (next W n) es K.meant σ)
    some_follows NoExprs K w target a b rest μ m σ row.no_operands sound place inside now = led.no_operand_row W (suc n) K w.around true target a rest μ m σ now
    some_follows (AndExpr e es) K w target a b rest μ m σ (row.and_operand c code codes) sound place inside now =
        let low = run_order (branch_run code) in let high = run_order (operands_run codes) in
        let r = value W.program (next W n) e K.meant σ in
        led.either_row W (suc n) K w.around target c b rest (some_of W.program (next W n) es K.meant) (promise.here K a rest μ m) r
        (branch_follows e (value_follows e) K w true target a c rest μ m σ code sound.0 (place_first W K w (hidden_expr e + hidden_exprs es) (hidden_expr e) (omega arith) place)
        (inside_part W K.ground a b a c (omega arith) high inside) now)
        (λ ν l agrees. some_follows es K (beyond (hidden_expr e) w) target c b rest ν l r.state codes sound.1
        (place_part W K w (hidden_expr e + hidden_exprs es) (hidden_expr e) (hidden_exprs es) (omega arith) place) (inside_part W K.ground a b c b low (omega arith) inside) agrees)

  pub expressions_follow : ExpressionsFollow W n
  expressions_follow = record {
    value = value_follows;
    values = values_follow;
    path = path_follows;
    branch = λ e. branch_follows e (value_follows e);
  }
