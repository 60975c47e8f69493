-- The rows of expressions: the code of a block stands for an expression where the code of its parts does.
use Rattle.std.proofs.Common.{◌≡◌, refl, sym, ap, ◌∙◌, subst, ℕ, suc, ◌+◌, ◌-◌, List, [], ◌∷◌, Bool, true, false, if◌then◌else◌, arith}
use Rattle.mesa_types.specs.declared.typed_parts.Base.{Base}
use Rattle.mesa_types.specs.declared.typed_parts.Bases.{Bases}
use Rattle.mesa_types.specs.declared.typed_parts.Conversion.{Conversion}
use Rattle.mesa_types.specs.declared.typed_parts.Home.{Home}
use Rattle.mesa_types.specs.declared.typed_parts.Home.TheVariants.{Global, Local}
use Rattle.mesa_types.specs.declared.typed_parts.Operator.{Operator}
use Rattle.mesa_types.specs.declared.typed_parts.Part.{Part}
use Rattle.mesa_types.specs.declared.typed_parts.Range.{Range}
use Rattle.mesa_base.specs.declared.relation.Relation.{Relation}
use Rattle.mesa_types.specs.Typed.{Kind, Kinds, Expr, Number, LongNumber, Literal, Variable, FieldOf, LengthOf, ByteOf, Checked, Converted, Operate, OperateLong, Negate, NegateLong, Relate, RelateLong, Within, WithinLong, Not, Construct, Exprs, NoExprs, AndExpr, Suffixes, NoSuffix, Field, Index, Operations, NoOperation, Then, Between, Texts}
use Rattle.mesa_types.specs.Counts.{hidden_expr, words_of, words_given, last_words}
use Rattle.mesa_types.specs.Shapes.{one}
use Rattle.mesa_types.specs.Sound.{Scope, a_word, a_long, FieldsIn, ExprIn, ExprsIn, SuffixesIn}
use Rattle.code_forms.specs.declared.instruction.Instruction.{Instruction}
use Rattle.code_forms.specs.declared.instruction.Instruction.TheVariants as i
use Rattle.code_rules.specs.CodeFor.{ExprCode, ExprsCode, BoundsCode, OperationsCode, LongOperationsCode, PathCode, BranchCode, OperandsCode, number, long_number, literal, variable, element, field_of, length_of, byte_of, checked, converted, operate, operate_long, negate, negate_long, relate, relate_long, within, within_long, negation, construct, no_values, and_value, bounds, no_operation, operation, no_long_operation, long_operation, here, field, index, words_before_last}
use Rattle.code_rules.specs.OwnCode.{check_code, long_code, conversion_code, field_code, relation_code, long_relation_code, operator_code, long_operator_code, within_code, long_within_code, arrange_code, index_code}
use Rattle.code_rules.specs.Reading.{Coded, Place, Own, past, past_all, deeper, beyond, scratch}
use Rattle.code_rules.proofs.Depths.{own_code_keeps_words}
use Rattle.code_rules.specs.Slots.{load, load_within, fields_of, sizes, HasIndex, HasNoIndex}
use Rattle.code_blocks.specs.Blocks as tree
use Rattle.code_blocks.specs.Blocks.{Does, ◌▹◌}
use Rattle.code_blocks.specs.Own.{bytes_in, left_of, AreOwn}
use Rattle.code_blocks.specs.Sizes.{size, depth_behind}
use Rattle.code_blocks.specs.Translation.{has_index, at_element, forms, values, operands, path}
use Rattle.code_blocks.specs.Translation as t
use Rattle.code_blocks.specs.Writing.{Env, end_at}
use Rattle.code_blocks.proofs.Known.{Known}
use Rattle.code_blocks.proofs.Lying.{Laid, laid, Lies, both_lie, own_lies}
use Rattle.code_blocks.proofs.Own.{field_own, check_own, conversion_own, index_own, relation_own, long_relation_own, operator_own, long_operator_own, within_own, long_within_own, arrange_own, load_own, load_within_own}
use Rattle.code_blocks.proofs.Values.{none, word_is, long_is, one_is, fields_fit, own_left, behind, value_depth, values_depth, path_depth}

-- whether there is an index

pub indexed : (s : Suffixes) → has_index s ≡ true → HasIndex s
indexed NoSuffix e = cc
indexed (Field n offset s) e = indexed s e
indexed (Index r first n words e s) h = tt

pub not_indexed : (s : Suffixes) → has_index s ≡ false → HasNoIndex s
not_indexed NoSuffix e = tt
not_indexed (Field n offset s) e = not_indexed s e
not_indexed (Index r first n words e s) h = cc

module _ (S : Laid) where
  abbrev pub U : Coded
  U = S.names

  abbrev pub P : Coded
  P = laid S

  -- a block lies where a construct stands
  abbrev pub L : tree.Block → Env → Place → ℕ → Type 0
  L block E w a = Lies S block E w.around w.depth a

  -- a block behind another, with the words that it leaves
  pub next : (b c : tree.Block) (E : Env) (w : Place) (a n : ℕ) → L (b ▹ c) E w a → depth_behind b w.depth ≡ n
      → L b E w a × Lies S c E w.around n (a + size b)
  next b c E w a n h e =
      let x = both_lie S b c E w.around w.depth a h in
      (x.0, subst (λ d. Lies S c E w.around d (a + size b)) e x.1)

  -- the code of variables does not depend on what code there is
  pub load_same : (h : Home) (offset words : ℕ) → load U h offset words ≡ load P h offset words
  load_same (Local n) offset words = refl
  load_same (Global n) offset words = refl

  pub load_within_same : (h : Home) (words : ℕ) → load_within U h words ≡ load_within P h words
  load_within_same (Local n) words = refl
  load_within_same (Global n) words = refl

  module _ (Γ : Scope) where
    -- the code stands for these
    abbrev pub Value : Expr → Type 0
    Value e = (E : Env) (w : Place) → Known Γ E.points w.points → (a b : ℕ) → L (forms U w.slot e).value E w a → b ≡ a + size (forms U w.slot e).value
        → ExprCode P w e a b

    abbrev pub Jumped : Expr → Type 0
    Jumped e = (sense : Bool) (part target : ℕ) (E : Env) (w : Place) → Known Γ E.points w.points → (a b : ℕ) → end_at E.ends part ≡ target
        → L ((forms U w.slot e).jump sense part) E w a → b ≡ a + size ((forms U w.slot e).jump sense part) → BranchCode P w e sense target a b

    abbrev pub Values : Exprs → Type 0
    Values es = (E : Env) (w : Place) → Known Γ E.points w.points → (a b : ℕ) → L (values U w.slot es) E w a → b ≡ a + size (values U w.slot es)
        → ExprsCode P w es a b

    abbrev pub Operands : Exprs → Type 0
    Operands es = (sense : Bool) (part target : ℕ) (E : Env) (w : Place) → Known Γ E.points w.points → (a b : ℕ) → end_at E.ends part ≡ target
        → L (operands U w.slot es sense part) E w a → b ≡ a + size (operands U w.slot es sense part) → OperandsCode P w es sense target a b

    -- where a word is on the operand stack
    abbrev pub Run : Operations → Type 0
    Run os = (E : Env) (w : Place) (d : ℕ) → w.depth ≡ d + 1 → Known Γ E.points w.points → (a b : ℕ) → L (t.operations U w.slot os) E w a
        → b ≡ a + size (t.operations U w.slot os) → OperationsCode P w os a b

    -- where the two words of a LONG number are
    abbrev pub LongRun : Operations → Type 0
    LongRun os = (E : Env) (w : Place) (d : ℕ) → w.depth ≡ d + 2 → Known Γ E.points w.points → (a b : ℕ) → L (t.long_operations U w.slot os) E w a
        → b ≡ a + size (t.long_operations U w.slot os) → LongOperationsCode P w os a b

    abbrev pub Path : Suffixes → Type 0
    Path s = (E : Env) (w : Place) (d : ℕ) → w.depth ≡ d + 1 → Known Γ E.points w.points → (a b : ℕ) → L (path U w.slot s) E w a
        → b ≡ a + size (path U w.slot s) → PathCode P w s a b

    -- behind a value
    pub past_value : (e : Expr) (ks : Kinds) → ExprIn Γ e ks → (c : tree.Block) (E : Env) (w : Place) (a : ℕ) → L ((forms U w.slot e).value ▹ c) E w a
        → L (forms U w.slot e).value E w a × L c E (past e w) (a + size (forms U w.slot e).value)
    past_value e ks h c E w a l = next (forms U w.slot e).value c E w a (w.depth + words_of e) l (value_depth U Γ e ks h w.slot w.depth)

    -- a value and own code behind it
    pub value_then : (e : Expr) (ks : Kinds) → ExprIn Γ e ks → Value e → (is : List Instruction) → AreOwn is → (E : Env) (w : Place) → Known Γ E.points w.points
        → (a b : ℕ) → L ((forms U w.slot e).value ▹ Does is) E w a → b ≡ a + (size (forms U w.slot e).value + bytes_in is)
        → (c : ℕ) × ExprCode P w e a c × Own P (past e w) is c b
    value_then e ks h v is o E w known a b l eq =
        let x = past_value e ks h (Does is) E w a l in
        let c = a + size (forms U w.slot e).value in
        (c, v E w known a c x.0 refl, own_lies S (past e w) is E c b o x.1 (omega (arith, eq)))

    pub number_row : (n : ℕ) → Value (Number n)
    number_row n E w known a b l eq = number (own_lies S w (i.Lit n ∷ []) E a b (tt, tt) l eq)

    pub long_number_row : (n : ℕ) → Value (LongNumber n)
    long_number_row n E w known a b l eq = long_number (own_lies S w (long_code n) E a b (tt, (tt, tt)) l eq)

    pub literal_row : (k : ℕ) → Value (Literal k)
    literal_row k E w known a b l eq = literal (own_lies S w (i.Str (suc k) ∷ []) E a b (tt, tt) l eq)

    pub length_row : (e : Expr) → ExprIn Γ e (one Texts) → Value e → Value (LengthOf e)
    length_row e h v E w known a b l eq =
        let x = value_then e (one Texts) h v (i.StrLen ∷ []) (tt, tt) E w known a b l eq in
        length_of x.0 x.1 x.2

    pub byte_row : (e x : Expr) → ExprIn Γ e (one Texts) → ExprIn Γ x a_word → Value e → Value x → Value (ByteOf e x)
    byte_row e x h g v u E w known a b l eq =
        let m = past_value e (one Texts) h ((forms U (w.slot + hidden_expr e) x).value ▹ Does (i.StrAt ∷ [])) E w a l in
        let c = a + size (forms U w.slot e).value in
        let y = value_then x a_word g u (i.StrAt ∷ []) (tt, tt) E (past e w) known c b m.1 (omega (arith, eq)) in
        byte_of c y.0 (v E w known a c m.0 refl) y.1 y.2

    pub checked_row : (range : Range) (e : Expr) → ExprIn Γ e a_word → Value e → Value (Checked range e)
    checked_row range e h v E w known a b l eq =
        let x = value_then e a_word h v (check_code range) (check_own range) E w known a b l eq in
        checked x.0 x.1 x.2

    pub converted_row : (conversion : Conversion) (e : Expr) (ks : Kinds) → ExprIn Γ e ks → Value e → Value (Converted conversion e)
    converted_row conversion e ks h v E w known a b l eq =
        let x = value_then e ks h v (conversion_code conversion) (conversion_own conversion) E w known a b l eq in
        converted x.0 x.1 x.2

    pub negate_long_row : (e : Expr) → ExprIn Γ e a_long → Value e → Value (NegateLong e)
    negate_long_row e h v E w known a b l eq =
        let x = value_then e a_long h v (i.NegD ∷ []) (tt, tt) E w known a b l eq in
        negate_long x.0 x.1 x.2

    pub relate_long_row : (base : Base) (o : Relation) (d e : Expr) → ExprIn Γ d a_long → ExprIn Γ e a_long → Value d → Value e → Value (RelateLong base o d e)
    relate_long_row base o d e h g v u E w known a b l eq =
        let x = past_value d a_long h ((forms U (w.slot + hidden_expr d) e).value ▹ Does (long_relation_code base o)) E w a l in
        let c = a + size (forms U w.slot d).value in
        let y = value_then e a_long g u (long_relation_code base o) (long_relation_own base o) E (past d w) known c b x.1 (omega (arith, eq)) in
        relate_long c y.0 (v E w known a c x.0 refl) y.1 y.2

    pub negate_row : (e : Expr) → ExprIn Γ e a_word → Value e → Value (Negate e)
    negate_row e h v E w known a b l eq =
        let x = value_then e a_word h v (i.Neg ∷ []) (tt, tt) E w known a b l eq in
        negate x.0 x.1 x.2

    pub negation_row : (e : Expr) → ExprIn Γ e a_word → Value e → Value (Not e)
    negation_row e h v E w known a b l eq =
        let x = value_then e a_word h v (i.Not ∷ []) (tt, tt) E w known a b l eq in
        negation x.0 x.1 x.2

    pub relate_row : (base : Base) (o : Relation) (d e : Expr) → ExprIn Γ d a_word → ExprIn Γ e a_word → Value d → Value e → Value (Relate base o d e)
    relate_row base o d e h g v u E w known a b l eq =
        let x = past_value d a_word h ((forms U (w.slot + hidden_expr d) e).value ▹ Does (relation_code base o)) E w a l in
        let c = a + size (forms U w.slot d).value in
        let y = value_then e a_word g u (relation_code base o) (relation_own base o) E (past d w) known c b x.1 (omega (arith, eq)) in
        relate c y.0 (v E w known a c x.0 refl) y.1 y.2

    pub variable_row : (h : Home) (s : Suffixes) (words : ℕ) (j k : Kind) → SuffixesIn Γ s j k → Path s → Value (Variable h s words)
    variable_row h s words j k sound p E w known a b l eq = go (has_index s) refl l eq
      where
        X : tree.Block
        X = at_element s (path U w.slot s ▹ Does (load_within U h words ∷ []))

        Y : tree.Block
        Y = Does (load U h (fields_of s) words ∷ [])

        go : (x : Bool) → has_index s ≡ x → L (if x then X else Y) E w a → b ≡ a + size (if x then X else Y) → ExprCode P w (Variable h s words) a b
        go true e l eq =
            let c = a + bytes_in (i.Lit (fields_of s) ∷ []) in
            let d = c + size (path U w.slot s) in
            let x = next (Does (i.Lit (fields_of s) ∷ [])) (path U w.slot s ▹ Does (load_within U h words ∷ [])) E w a (w.depth + 1) l (omega arith) in
            let y = next (path U w.slot s) (Does (load_within U h words ∷ [])) E (deeper 1 w) c (w.depth + 1) x.1 (path_depth U Γ s j k sound w.slot w.depth) in
            element c d (indexed s e) (own_lies S w (i.Lit (fields_of s) ∷ []) E a c (tt, tt) x.0 refl)
            (p E (deeper 1 w) w.depth refl known c d y.0 refl)
            (subst (λ f. Own P (deeper 1 w) (f ∷ []) d b) (load_within_same h words)
            (own_lies S (deeper 1 w) (load_within U h words ∷ []) E d b (load_within_own U h words, tt) y.1 (omega (arith, eq))))
        go false e l eq =
            variable (not_indexed s e)
            (subst (λ f. Own P w (f ∷ []) a b) (load_same h (fields_of s) words)
            (own_lies S w (load U h (fields_of s) words ∷ []) E a b (load_own U h (fields_of s) words, tt) l eq))

    pub field_row : (e : Expr) (parts : List Part) (j k : Kind) → ExprIn Γ e (one j) → FieldsIn parts j k → Value e → Value (FieldOf e parts)
    field_row e parts j k h fields v E w known a b l eq =
        let before = words_before_last parts in
        let words = last_words parts in
        let after = words_of e - (before + words) in
        let x = value_then e (one j) h v (field_code before words after) (field_own before words after) E w known a b l eq in
        field_of x.0 after x.1 (omega (arith, one_is Γ e j h, fields_fit parts j k fields)) x.2

    pub operate_row : (e : Expr) (os : Operations) → ExprIn Γ e a_word → Value e → Run os → Value (Operate e os)
    operate_row e os h v u E w known a b l eq =
        let x = past_value e a_word h (t.operations U (w.slot + hidden_expr e) os) E w a l in
        let c = a + size (forms U w.slot e).value in
        operate c (v E w known a c x.0 refl) (u E (past e w) w.depth (ap (λ n. w.depth + n) (word_is Γ e h)) known c b x.1 (omega (arith, eq)))

    pub no_operation_row : Run NoOperation
    no_operation_row E w d one known a b l eq = subst (λ z. OperationsCode P w NoOperation a z) {x = a} {y = b} (omega (arith, eq)) no_operation

    pub operation_row : (range : Range) (o : Operator) (e : Expr) (os : Operations) → ExprIn Γ e a_word → Value e → Run os → Run (Then range o e os)
    operation_row range o e os h v u E w d one known a b l eq =
        let rest = t.operations U (w.slot + hidden_expr e) os in
        let checks = left_of (check_code range) in
        let kept : checks w.depth ≡ w.depth =
        own_left (check_code range) one (own_code_keeps_words.check none range d) ∙ sym one in
        let x = next (Does (check_code range)) ((forms U w.slot e).value ▹ Does (operator_code (scratch U) o) ▹ rest) E w a w.depth l kept in
        let c = a + bytes_in (check_code range) in
        let y = past_value e a_word h (Does (operator_code (scratch U) o) ▹ rest) E w c x.1 in
        let f = c + size (forms U w.slot e).value in
        let operated : left_of (operator_code (scratch U) o) (w.depth + words_of e) ≡ w.depth =
        own_left (operator_code (scratch U) o) {n = d + 2} (omega (arith, one, word_is Γ e h)) (own_code_keeps_words.operator none (scratch U) o d) ∙ sym one in
        let z = next (Does (operator_code (scratch U) o)) rest E (past e w) f w.depth y.1 operated in
        let g = f + bytes_in (operator_code (scratch U) o) in
        operation c f g (own_lies S w (check_code range) E a c (check_own range) x.0 refl) (v E w known c f y.0 refl)
        (own_lies S (past e w) (operator_code (scratch U) o) E f g (operator_own (scratch U) o) z.0 refl)
        (u E (beyond (hidden_expr e) w) d one known g b z.1 (omega (arith, eq)))

    pub operate_long_row : (e : Expr) (os : Operations) → ExprIn Γ e a_long → Value e → LongRun os → Value (OperateLong e os)
    operate_long_row e os h v u E w known a b l eq =
        let x = past_value e a_long h (t.long_operations U (w.slot + hidden_expr e) os) E w a l in
        let c = a + size (forms U w.slot e).value in
        operate_long c (v E w known a c x.0 refl) (u E (past e w) w.depth (ap (λ n. w.depth + n) (long_is Γ e h)) known c b x.1 (omega (arith, eq)))

    pub no_long_operation_row : LongRun NoOperation
    no_long_operation_row E w d two known a b l eq = subst (λ z. LongOperationsCode P w NoOperation a z) {x = a} {y = b} (omega (arith, eq)) no_long_operation

    pub long_operation_row : (range : Range) (o : Operator) (e : Expr) (os : Operations) → ExprIn Γ e a_long → Value e → LongRun os → LongRun (Then range o e os)
    long_operation_row range o e os h v u E w d two known a b l eq =
        let rest = t.long_operations U (w.slot + hidden_expr e) os in
        let y = past_value e a_long h (Does (long_operator_code o) ▹ rest) E w a l in
        let f = a + size (forms U w.slot e).value in
        let operated : left_of (long_operator_code o) (w.depth + words_of e) ≡ w.depth =
        own_left (long_operator_code o) {n = d + 4} (omega (arith, two, long_is Γ e h)) (own_code_keeps_words.long_operator none o d) ∙ sym two in
        let z = next (Does (long_operator_code o)) rest E (past e w) f w.depth y.1 operated in
        let g = f + bytes_in (long_operator_code o) in
        long_operation f g (v E w known a f y.0 refl)
        (own_lies S (past e w) (long_operator_code o) E f g (long_operator_own o) z.0 refl)
        (u E (beyond (hidden_expr e) w) d two known g b z.1 (omega (arith, eq)))

    pub here_row : Path NoSuffix
    here_row E w d one known a b l eq = subst (λ z. PathCode P w NoSuffix a z) {x = a} {y = b} (omega (arith, eq)) here

    pub field_path_row : (n offset : ℕ) (s : Suffixes) → Path s → Path (Field n offset s)
    field_path_row n offset s p E w d one known a b l eq = field (p E w d one known a b l eq)

    pub index_row : (range : Range) (first n words : ℕ) (e : Expr) (s : Suffixes) → ExprIn Γ e a_word → Value e → Path s → Path (Index range first n words e s)
    index_row range first n words e s h v p E w d one known a b l eq =
        let x = past_value e a_word h (Does (index_code range first n words) ▹ path U (w.slot + hidden_expr e) s) E w a l in
        let c = a + size (forms U w.slot e).value in
        let indexes : left_of (index_code range first n words) (w.depth + words_of e) ≡ w.depth =
        own_left (index_code range first n words) {n = d + 2} (omega (arith, one, word_is Γ e h))
        (own_code_keeps_words.index none range first n words d) ∙ sym one in
        let y = next (Does (index_code range first n words)) (path U (w.slot + hidden_expr e) s) E (past e w) c w.depth x.1 indexes in
        let f = c + bytes_in (index_code range first n words) in
        index c f (v E w known a c x.0 refl)
        (own_lies S (past e w) (index_code range first n words) E c f (index_own range first n words) y.0 refl)
        (p E (beyond (hidden_expr e) w) d one known f b y.1 (omega (arith, eq)))

    pub bounds_row : (x y : Expr) (p q : Bool) (ks : Kinds) → ExprIn Γ x ks → Value x → Value y → (E : Env) (w : Place) → Known Γ E.points w.points → (a b : ℕ)
        → L (t.bounds U w.slot (Between x p y q)) E w a → b ≡ a + size (t.bounds U w.slot (Between x p y q)) → BoundsCode P w x y a b
    bounds_row x y p q ks h v u E w known a b l eq =
        let m = past_value x ks h (forms U (w.slot + hidden_expr x) y).value E w a l in
        let c = a + size (forms U w.slot x).value in
        bounds c (v E w known a c m.0 refl) (u E (past x w) known c b m.1 (omega (arith, eq)))

    -- behind two bounds
    pub past_bounds : (x y : Expr) (p q : Bool) (ks : Kinds) → ExprIn Γ x ks → ExprIn Γ y ks → (c : tree.Block) (E : Env) (w : Place) (a : ℕ)
        → L (t.bounds U w.slot (Between x p y q) ▹ c) E w a
        → L (t.bounds U w.slot (Between x p y q)) E w a × L c E (past y (past x w)) (a + size (t.bounds U w.slot (Between x p y q)))
    past_bounds x y p q ks h g c E w a l =
        next (t.bounds U w.slot (Between x p y q)) c E w a (w.depth + words_of x + words_of y) l
        (behind (forms U (w.slot + hidden_expr x) y).value (value_depth U Γ x ks h w.slot w.depth)
        (value_depth U Γ y ks g (w.slot + hidden_expr x) (w.depth + words_of x)))

    pub within_row : (bases : Bases) (e x y : Expr) (p q : Bool) → ExprIn Γ e a_word → ExprIn Γ x a_word → ExprIn Γ y a_word → Value e → Value x → Value y
        → Value (Within bases e (Between x p y q))
    within_row bases e x y p q h g k v u o E w known a b l eq =
        let is = within_code (scratch U) bases p q in
        let range = t.bounds U (w.slot + hidden_expr e) (Between x p y q) in
        let m = past_value e a_word h (range ▹ Does is) E w a l in
        let c = a + size (forms U w.slot e).value in
        let n = past_bounds x y p q a_word g k (Does is) E (past e w) c m.1 in
        let d = c + size range in
        within c d (v E w known a c m.0 refl) (bounds_row x y p q a_word g u o E (past e w) known c d n.0 refl)
        (own_lies S (past y (past x (past e w))) is E d b (within_own (scratch U) bases p q) n.1 (omega (arith, eq)))

    pub within_long_row : (bases : Bases) (e x y : Expr) (p q : Bool) → ExprIn Γ e a_long → ExprIn Γ x a_long → ExprIn Γ y a_long → Value e → Value x → Value y
        → Value (WithinLong bases e (Between x p y q))
    within_long_row bases e x y p q h g k v u o E w known a b l eq =
        let is = long_within_code (scratch U) bases p q in
        let range = t.bounds U (w.slot + hidden_expr e) (Between x p y q) in
        let m = past_value e a_long h (range ▹ Does is) E w a l in
        let c = a + size (forms U w.slot e).value in
        let n = past_bounds x y p q a_long g k (Does is) E (past e w) c m.1 in
        let d = c + size range in
        within_long c d (v E w known a c m.0 refl) (bounds_row x y p q a_long g u o E (past e w) known c d n.0 refl)
        (own_lies S (past y (past x (past e w))) is E d b (long_within_own (scratch U) bases p q) n.1 (omega (arith, eq)))

    pub no_values_row : Values NoExprs
    no_values_row E w known a b l eq = subst (λ z. ExprsCode P w NoExprs a z) {x = a} {y = b} (omega (arith, eq)) no_values

    pub and_value_row : (e : Expr) (es : Exprs) (j : Kind) → ExprIn Γ e (one j) → Value e → Values es → Values (AndExpr e es)
    and_value_row e es j h v u E w known a b l eq =
        let x = past_value e (one j) h (values U (w.slot + hidden_expr e) es) E w a l in
        let c = a + size (forms U w.slot e).value in
        and_value c (v E w known a c x.0 refl) (u E (past e w) known c b x.1 (omega (arith, eq)))

    -- behind values
    pub past_values : (es : Exprs) (ks : Kinds) → ExprsIn Γ es ks → (c : tree.Block) (E : Env) (w : Place) (a : ℕ) → L (values U w.slot es ▹ c) E w a
        → L (values U w.slot es) E w a × L c E (past_all es w) (a + size (values U w.slot es))
    past_values es ks h c E w a l = next (values U w.slot es) c E w a (w.depth + words_given es) l (values_depth U Γ es ks h w.slot w.depth)

    pub construct_row : (places : List ℕ) (es : Exprs) (ks : Kinds) → ExprsIn Γ es ks → Values es → Value (Construct places es)
    construct_row places es ks h v E w known a b l eq =
        let x = past_values es ks h (Does (arrange_code places (sizes es))) E w a l in
        let c = a + size (values U w.slot es) in
        construct c (v E w known a c x.0 refl)
        (own_lies S (past_all es w) (arrange_code places (sizes es)) E c b (arrange_own places (sizes es)) x.1 (omega (arith, eq)))
