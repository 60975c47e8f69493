-- The rows of extractors.
use Rattle.std.proofs.Common.{◌≡◌, refl, sym, ap, ◌∙◌, subst, ℕ, zero, suc, ◌+◌, ◌-◌, ◌<◌, ◌≤◌, List, [], ◌∷◌, ◌++◌, Contains, Bool, true, false, if◌then◌else◌, arith}
use Rattle.mesa_types.specs.declared.typed_parts.Conversion.{Conversion}
use Rattle.mesa_types.specs.declared.typed_parts.Conversion.TheVariants as conversion
use Rattle.mesa_types.specs.declared.typed_parts.Home.{Home}
use Rattle.mesa_types.specs.declared.typed_parts.Home.TheVariants.{Global, Local}
use Rattle.mesa_types.specs.declared.typed_parts.Part.{Part}
use Rattle.mesa_types.specs.declared.typed_parts.Range.{Range}
use Rattle.mesa_types.specs.declared.typed_parts.Range.TheVariants.{Every, From}
use Rattle.mesa_types.specs.Typed.{Kind, Ordinal, Longs, Array, Record, Kinds, NoKinds, AndKind, Expr, Suffixes, NoSuffix, Field, Index, Extract, Targets, NoTargets, AndTarget, AndConverted}
use Rattle.mesa_types.specs.Counts.{hidden_suffixes, hidden_targets, words_of, words_before, words_after}
use Rattle.mesa_types.specs.Shapes.{words_in_all, HasWords, AllHaveWords, KindAt}
use Rattle.mesa_types.specs.Sound.{Scope, VariableIn, AllDiffer, Converts, ExprIn, SuffixesIn, TargetsIn, taken}
use Rattle.mesa_types.proofs.WordSizes.{values_have_words}
use Rattle.code_rules.specs.CodeFor.{words_taken, words_over}
use Rattle.code_rules.specs.OwnCode.{pop_code, lift_code, check_code, conversion_code}
use Rattle.code_blocks.specs.Own.{left_of, IsOwn, AreOwn, bytes_in}
use Rattle.mesa_types.specs.declared.typed_parts.Base.TheVariants.{Signed, Unsigned}
use Rattle.code_forms.specs.declared.instruction.Instruction.{Instruction}
use Rattle.code_forms.specs.declared.instruction.Instruction.TheVariants as i
use Rattle.code_rules.specs.CodeFor.{TargetsCode, leaving, extract, no_targets, and_target, and_element, and_converted, and_converted_element}
use Rattle.code_rules.specs.Reading.{Coded, Place, Own, deeper, beyond}
use Rattle.code_rules.specs.Slots.{store, store_within, fields_of}
use Rattle.code_rules.proofs.Depths.{own_code_keeps_words}
use Rattle.code_blocks.specs.Blocks as tree
use Rattle.code_blocks.specs.Blocks.{Does, ◌▹◌}
use Rattle.code_blocks.specs.Sizes.{size, depth_behind}
use Rattle.code_blocks.specs.Translation.{has_index, at_element, forms, path, targets}
use Rattle.code_blocks.specs.Writing.{Env}
use Rattle.code_forms.specs.declared.module_code.Phrase.{Phrase}
use Rattle.code_blocks.proofs.Around.{AreWritten}
use Rattle.code_blocks.proofs.Known.{Known}
use Rattle.code_blocks.proofs.Lying.{Laid, laid, own_lies}
use Rattle.code_blocks.proofs.Own.{left_both, own_both, pop_own, lift_own, check_own, conversion_own, store_own, store_within_own}
use Rattle.code_blocks.proofs.Parts.{IsPart, is_part, NotAmong, AreParts, part_fits}
use Rattle.code_blocks.proofs.StatementDepths.{pop_left, store_left, store_within_left}
use Rattle.code_blocks.proofs.Values.{behind, own_left, none, words_converted, value_depth, path_depth}
use Rattle.code_blocks.proofs.ExpressionRows.{L, next, indexed, not_indexed, Value, Path, past_value}
use Rattle.code_blocks.proofs.StatementRows.{Stands, store_same, store_within_same}

-- the variables of a scope have words, and so have their parts

abbrev pub HaveWords : Scope → Type 0
HaveWords Γ = AllHaveWords Γ.globals × AllHaveWords Γ.locals

pub kind_has : (ks : Kinds) (n : ℕ) (k : Kind) → AllHaveWords ks → KindAt ks n k → HasWords k
unfolding AllHaveWords KindAt
kind_has NoKinds n k h at = absurd at
kind_has (AndKind j ks) zero k h at = subst HasWords at h.0
kind_has (AndKind j ks) (suc n) k h at = kind_has ks n k h.1 at

pub variable_has : (Γ : Scope) (h : Home) (k : Kind) → HaveWords Γ → VariableIn Γ h k → HasWords k
unfolding VariableIn
variable_has Γ (Global n) k words at = kind_has Γ.globals n k words.0 at
variable_has Γ (Local n) k words at = kind_has Γ.locals n k words.1 at

pub fields_have : (ks : Kinds) → HasWords (Record ks) → AllHaveWords ks
unfolding HasWords AllHaveWords
fields_have NoKinds h = tt
fields_have (AndKind k ks) h = h

pub part_has : (Γ : Scope) (s : Suffixes) (j k : Kind) → HasWords j → SuffixesIn Γ s j k → HasWords k
unfolding SuffixesIn HasWords
part_has Γ NoSuffix j k h e = subst HasWords e h
part_has Γ (Field n offset s) j k h e =
    part_has Γ s e.1 k (kind_has e.0 n e.1 (fields_have e.0 (subst HasWords e.2 h)) (e.3).is_there) e.4
part_has Γ (Index r first n words x s) j k h e = part_has Γ s e.0 k (array_has n e.0 (subst HasWords e.1 h)) e.7
  where
    array_has : (n : ℕ) (k : Kind) → HasWords (Array n k) → HasWords k
    array_has n k h = h.1

-- What a target does to the operand stack.

pub lift_left : (n k m : ℕ) → n + k ≤ m → left_of (lift_code n k) m ≡ m
lift_left n zero m h = refl
lift_left n (suc k) m h = omega (arith, h)

pub check_left : (r : Range) (m : ℕ) → 0 < m → left_of (check_code r) m ≡ m
check_left Every m h = refl
check_left (From Signed first last) m h = omega (arith, h)
check_left (From Unsigned first last) m h = omega (arith, h)

brought_left : (n k : ℕ) (r : Range) (x : Instruction) (m : ℕ) → n + k ≤ m → 0 < m
    → left_of (lift_code n k ++ (check_code r ++ x ∷ [])) m ≡ left_of (x ∷ []) m
brought_left n k r x m h some =
    left_both (lift_code n k) (check_code r ++ x ∷ []) m
    ∙ (ap (left_of (check_code r ++ x ∷ [])) (lift_left n k m h)
    ∙ (left_both (check_code r) (x ∷ []) m ∙ ap (left_of (x ∷ [])) (check_left r m some)))

brought_own : (n k : ℕ) (r : Range) (x : Instruction) → IsOwn x → AreOwn (lift_code n k ++ (check_code r ++ x ∷ []))
brought_own n k r x h = own_both (lift_code n k) _ (lift_own n k) (own_both (check_code r) _ (check_own r) (h, tt))

-- the same of a part that is converted: where n words come to the top, so many are left of them
converted_left : (n k : ℕ) (c : Conversion) (x : Instruction) (d : ℕ) → n ≡ words_before c → k ≤ d
    → left_of (lift_code n k ++ (conversion_code c ++ x ∷ [])) (d + n) ≡ left_of (x ∷ []) (d + words_after c)
converted_left n k c x d size h =
    left_both (lift_code n k) (conversion_code c ++ x ∷ []) (d + n)
    ∙ (ap (left_of (conversion_code c ++ x ∷ [])) (lift_left n k (d + n) (omega (arith, h)))
    ∙ (left_both (conversion_code c) (x ∷ []) (d + n)
    ∙ ap (left_of (x ∷ [])) (own_left (conversion_code c) {n = d + words_before c} (ap (λ z. d + z) size) (own_code_keeps_words.conversion none c d))))

converted_own : (n k : ℕ) (c : Conversion) (x : Instruction) → IsOwn x → AreOwn (lift_code n k ++ (conversion_code c ++ x ∷ []))
converted_own n k c x h = own_both (lift_code n k) _ (lift_own n k) (own_both (conversion_code c) _ (conversion_own c) (h, tt))

longs_have : HasWords Longs
unfolding HasWords
longs_have = tt

ordinals_have : HasWords Ordinal
unfolding HasWords
ordinals_have = tt

-- what is converted has words
pub converted_has : (c : Conversion) (j k : Kind) → Converts c j k → HasWords j
unfolding Converts
converted_has conversion.Kept j k h = subst HasWords (sym h.0) longs_have
converted_has (conversion.Widened from to) j k h = subst HasWords (sym h.0) ordinals_have
converted_has (conversion.Narrowed from to r) j k h = subst HasWords (sym h.1) longs_have
converted_has conversion.InCommon j k h = subst HasWords (sym h.0) longs_have

-- the parts that are taken differ from those before
abbrev pub NoneTaken : List Part → Targets → Type 0
NoneTaken parts NoTargets = Unit {0}
NoneTaken parts (AndTarget p h s r ts) = NotAmong p.field parts × NoneTaken (p ∷ parts) ts
NoneTaken parts (AndConverted p h s c ts) = NotAmong p.field parts × NoneTaken (p ∷ parts) ts

module _ (S : Laid) (Γ : Scope) (words : HaveWords Γ) (ks : Kinds) where
  abbrev pub U : Coded
  U = S.names

  abbrev pub P : Coded
  P = laid S

  abbrev all : ℕ
  all = words_in_all ks

  abbrev pub Paths : Targets → Type 0
  Paths NoTargets = Unit {0}
  Paths (AndTarget p h s r ts) = Path S Γ s × Paths ts
  Paths (AndConverted p h s c ts) = Path S Γ s × Paths ts

  -- a target's part, and what is there of it
  pub target_part : (p : Part) (h : Home) (s : Suffixes) (r : Range) (ts : Targets) → TargetsIn Γ (AndTarget p h s r ts) ks → IsPart ks p × (0 < p.words)
  unfolding TargetsIn
  target_part p h s r ts t = (
    is_part ks p t.0 (t.2).is_there (t.2).lies t.3,
    omega (arith, t.3, values_have_words.of_kind t.0 (part_has Γ s t.1 t.0 (variable_has Γ h t.1 words t.4) t.5)),
  )

  pub converted_part : (p : Part) (h : Home) (s : Suffixes) (c : Conversion) (ts : Targets) → TargetsIn Γ (AndConverted p h s c ts) ks
      → IsPart ks p × (0 < p.words) × (p.words ≡ words_before c)
  unfolding TargetsIn
  converted_part p h s c ts t = (
    is_part ks p t.0 (t.3).is_there (t.3).lies t.4,
    omega (arith, t.4, values_have_words.of_kind t.0 (converted_has c t.0 t.1 t.6)),
    t.4 ∙ (words_converted c t.0 t.1 t.6).0,
  )

  -- own code of a target, after the path to an element and without one
  abbrev pub plain_own : Part → List Part → Home → Suffixes → Range → List Instruction
  plain_own p parts h s r = lift_code p.words (words_over all parts p) ++ (check_code r ++ store U h (fields_of s) p.words ∷ [])

  abbrev pub element_own : Part → List Part → Home → Range → List Instruction
  element_own p parts h r = lift_code p.words (suc (words_over all parts p)) ++ (check_code r ++ store_within U h p.words ∷ [])

  abbrev pub left_over : List Part → ℕ
  left_over parts = all - words_taken parts

  pub plain_left : (p : Part) (parts : List Part) (h : Home) (s : Suffixes) (r : Range) (d : ℕ) → p.words + words_over all parts p ≤ left_over parts → 0 < p.words
      → left_of (plain_own p parts h s r) (d + left_over parts) ≡ d + left_over (p ∷ parts)
  plain_left p parts h s r d fits some =
      brought_left p.words (words_over all parts p) r (store U h (fields_of s) p.words) (d + left_over parts) (omega (arith, fits)) (omega (arith, fits, some))
      ∙ (ap (left_of (store U h (fields_of s) p.words ∷ [])) {x = d + left_over parts} {y = d + left_over (p ∷ parts) + p.words} (omega (arith, fits))
      ∙ store_left U h (fields_of s) p.words (d + left_over (p ∷ parts)))

  pub element_left : (p : Part) (parts : List Part) (h : Home) (r : Range) (d : ℕ) → p.words + words_over all parts p ≤ left_over parts → 0 < p.words
      → left_of (element_own p parts h r) (d + left_over parts + 1) ≡ d + left_over (p ∷ parts)
  element_left p parts h r d fits some =
      brought_left p.words (suc (words_over all parts p)) r (store_within U h p.words) (d + left_over parts + 1) (omega (arith, fits)) (omega (arith, fits, some))
      ∙ (ap (left_of (store_within U h p.words ∷ [])) {x = d + left_over parts + 1} {y = d + left_over (p ∷ parts) + 1 + p.words} (omega (arith, fits))
      ∙ store_within_left U h p.words (d + left_over (p ∷ parts)))

  -- own code of a target that takes what is converted

  abbrev pub plain_converted : Part → List Part → Home → Suffixes → Conversion → List Instruction
  plain_converted p parts h s c = lift_code p.words (words_over all parts p) ++ (conversion_code c ++ store U h (fields_of s) (words_after c) ∷ [])

  abbrev pub element_converted : Part → List Part → Home → Conversion → List Instruction
  element_converted p parts h c = lift_code p.words (suc (words_over all parts p)) ++ (conversion_code c ++ store_within U h (words_after c) ∷ [])

  pub plain_converted_left : (p : Part) (parts : List Part) (h : Home) (s : Suffixes) (c : Conversion) (d : ℕ) → p.words + words_over all parts p ≤ left_over parts
      → p.words ≡ words_before c → left_of (plain_converted p parts h s c) (d + left_over parts) ≡ d + left_over (p ∷ parts)
  plain_converted_left p parts h s c d fits size =
      ap (left_of (plain_converted p parts h s c)) {x = d + left_over parts} {y = d + left_over (p ∷ parts) + p.words} (omega (arith, fits))
      ∙ (converted_left p.words (words_over all parts p) c (store U h (fields_of s) (words_after c)) (d + left_over (p ∷ parts)) size (omega (arith, fits))
      ∙ store_left U h (fields_of s) (words_after c) (d + left_over (p ∷ parts)))

  pub element_converted_left : (p : Part) (parts : List Part) (h : Home) (c : Conversion) (d : ℕ) → p.words + words_over all parts p ≤ left_over parts
      → p.words ≡ words_before c → left_of (element_converted p parts h c) (d + left_over parts + 1) ≡ d + left_over (p ∷ parts)
  element_converted_left p parts h c d fits size =
      ap (left_of (element_converted p parts h c)) {x = d + left_over parts + 1} {y = d + left_over (p ∷ parts) + 1 + p.words} (omega (arith, fits))
      ∙ (converted_left p.words (suc (words_over all parts p)) c (store_within U h (words_after c)) (d + left_over (p ∷ parts) + 1) size (omega (arith, fits))
      ∙ store_within_left U h (words_after c) (d + left_over (p ∷ parts)))

  -- the targets leave no words
  pub targets_keep : (ts : Targets) → TargetsIn Γ ts ks → (parts : List Part) → AreParts ks parts → NoneTaken parts ts → (z d : ℕ)
      → depth_behind (targets U z all parts ts) (d + left_over parts) ≡ d
  unfolding TargetsIn
  targets_keep NoTargets t parts are new z d = pop_left (all - words_taken parts) d
  targets_keep (AndTarget p h s r ts) t parts are new z d =
      go (targets_keep ts t.7 (p ∷ parts) (here.0, new.0, are) new.1 (z + hidden_suffixes s) d)
      (targets_keep ts t.7 (p ∷ parts) (here.0, new.0, are) new.1 z d) (has_index s)
    where
      here : IsPart ks p × (0 < p.words)
      here = target_part p h s r ts t

      fits : p.words + words_over all parts p ≤ left_over parts
      fits = part_fits ks p parts here.0 here.1 are new.0

      go : depth_behind (targets U (z + hidden_suffixes s) all (p ∷ parts) ts) (d + left_over (p ∷ parts)) ≡ d
          → depth_behind (targets U z all (p ∷ parts) ts) (d + left_over (p ∷ parts)) ≡ d → (x : Bool)
          → depth_behind (if x then at_element s (path U z s ▹ Does (element_own p parts h r) ▹ targets U (z + hidden_suffixes s) all (p ∷ parts) ts)
          else (Does (plain_own p parts h s r) ▹ targets U z all (p ∷ parts) ts)) (d + left_over parts) ≡ d
      go f g true =
          behind (targets U (z + hidden_suffixes s) all (p ∷ parts) ts)
          (ap (left_of (element_own p parts h r))
          (behind (path U z s) {m = d + left_over parts - 0 + 1} {n = d + left_over parts + 1} (omega arith)
          (path_depth U Γ s t.1 t.0 t.5 z (d + left_over parts)))
          ∙ element_left p parts h r d fits here.1) f
      go f g false = behind (targets U z all (p ∷ parts) ts) (plain_left p parts h s r d fits here.1) g
  targets_keep (AndConverted p h s c ts) t parts are new z d =
      go (targets_keep ts t.9 (p ∷ parts) (here.0, new.0, are) new.1 (z + hidden_suffixes s) d)
      (targets_keep ts t.9 (p ∷ parts) (here.0, new.0, are) new.1 z d) (has_index s)
    where
      here : IsPart ks p × (0 < p.words) × (p.words ≡ words_before c)
      here = converted_part p h s c ts t

      fits : p.words + words_over all parts p ≤ left_over parts
      fits = part_fits ks p parts here.0 here.1 are new.0

      go : depth_behind (targets U (z + hidden_suffixes s) all (p ∷ parts) ts) (d + left_over (p ∷ parts)) ≡ d
          → depth_behind (targets U z all (p ∷ parts) ts) (d + left_over (p ∷ parts)) ≡ d → (x : Bool)
          → depth_behind (if x then at_element s (path U z s ▹ Does (element_converted p parts h c) ▹ targets U (z + hidden_suffixes s) all (p ∷ parts) ts)
          else (Does (plain_converted p parts h s c) ▹ targets U z all (p ∷ parts) ts)) (d + left_over parts) ≡ d
      go f g true =
          behind (targets U (z + hidden_suffixes s) all (p ∷ parts) ts)
          (ap (left_of (element_converted p parts h c))
          (behind (path U z s) {m = d + left_over parts - 0 + 1} {n = d + left_over parts + 1} (omega arith)
          (path_depth U Γ s t.2 t.1 t.8 z (d + left_over parts)))
          ∙ element_converted_left p parts h c d fits here.2) f
      go f g false = behind (targets U z all (p ∷ parts) ts) (plain_converted_left p parts h s c d fits here.2) g

  -- the code of targets stands for them
  pub targets_row : (ts : Targets) → TargetsIn Γ ts ks → Paths ts → (parts : List Part) → AreParts ks parts → NoneTaken parts ts → (E : Env) (w : Place)
      → Known Γ E.points w.points → (a b : ℕ) → L S (targets U w.slot all parts ts) E (leaving all parts w) a → b ≡ a + size (targets U w.slot all parts ts)
      → TargetsCode P w all parts ts a b
  unfolding TargetsIn
  targets_row NoTargets t paths parts are new E w known a b l eq =
      no_targets (own_lies S (leaving all parts w) (pop_code (all - words_taken parts)) E a b (pop_own (all - words_taken parts)) l eq)
  targets_row (AndTarget p h s r ts) t paths parts are new E w known a b l eq =
      go (targets_row ts t.7 paths.1 (p ∷ parts) (here.0, new.0, are) new.1 E (beyond (hidden_suffixes s) w) known)
      (targets_row ts t.7 paths.1 (p ∷ parts) (here.0, new.0, are) new.1 E w known) (has_index s) refl l eq
    where
      here : IsPart ks p × (0 < p.words)
      here = target_part p h s r ts t

      fits : p.words + words_over all parts p ≤ left_over parts
      fits = part_fits ks p parts here.0 here.1 are new.0

      v : Place
      v = leaving all parts w

      X : tree.Block
      X = at_element s (path U w.slot s ▹ Does (element_own p parts h r) ▹ targets U (w.slot + hidden_suffixes s) all (p ∷ parts) ts)

      Y : tree.Block
      Y = Does (plain_own p parts h s r) ▹ targets U w.slot all (p ∷ parts) ts

      go : ((a b : ℕ) → L S (targets U (w.slot + hidden_suffixes s) all (p ∷ parts) ts) E (leaving all (p ∷ parts) w) a
          → b ≡ a + size (targets U (w.slot + hidden_suffixes s) all (p ∷ parts) ts) → TargetsCode P (beyond (hidden_suffixes s) w) all (p ∷ parts) ts a b)
          → ((a b : ℕ) → L S (targets U w.slot all (p ∷ parts) ts) E (leaving all (p ∷ parts) w) a → b ≡ a + size (targets U w.slot all (p ∷ parts) ts)
          → TargetsCode P w all (p ∷ parts) ts a b)
          → (x : Bool) → has_index s ≡ x → L S (if x then X else Y) E v a → b ≡ a + size (if x then X else Y)
          → TargetsCode P w all parts (AndTarget p h s r ts) a b
      go f g true is l eq =
          let c = a + bytes_in (i.Lit (fields_of s) ∷ []) in
          let d = c + size (path U w.slot s) in
          let e = d + bytes_in (element_own p parts h r) in
          let rest = targets U (w.slot + hidden_suffixes s) all (p ∷ parts) ts in
          let m = next S (Does (i.Lit (fields_of s) ∷ [])) (path U w.slot s ▹ Does (element_own p parts h r) ▹ rest) E v a (v.depth + 1) l (omega arith) in
          let n = next S (path U w.slot s) (Does (element_own p parts h r) ▹ rest) E (deeper 1 v) c (v.depth + 1) m.1
          (path_depth U Γ s t.1 t.0 t.5 w.slot v.depth) in
          let o = next S (Does (element_own p parts h r)) rest E (deeper 1 v) d (w.depth + left_over (p ∷ parts)) n.1
          (element_left p parts h r w.depth fits here.1) in
          and_element c d e (indexed s is) (own_lies S v (i.Lit (fields_of s) ∷ []) E a c (tt, tt) m.0 refl)
          (paths.0 E (deeper 1 v) v.depth refl known c d n.0 refl)
          (subst (λ y. Own P (deeper 1 v) (lift_code p.words (suc (words_over all parts p)) ++ (check_code r ++ y ∷ [])) d e) (store_within_same S h p.words)
          (own_lies S (deeper 1 v) (element_own p parts h r) E d e (brought_own p.words (suc (words_over all parts p)) r (store_within U h p.words)
          (store_within_own U h p.words)) o.0 refl))
          (f e b o.1 (omega (arith, eq)))
      go f g false is l eq =
          let c = a + bytes_in (plain_own p parts h s r) in
          let rest = targets U w.slot all (p ∷ parts) ts in
          let m = next S (Does (plain_own p parts h s r)) rest E v a (w.depth + left_over (p ∷ parts)) l (plain_left p parts h s r w.depth fits here.1) in
          and_target c (not_indexed s is)
          (subst (λ y. Own P v (lift_code p.words (words_over all parts p) ++ (check_code r ++ y ∷ [])) a c) (store_same S h (fields_of s) p.words)
          (own_lies S v (plain_own p parts h s r) E a c (brought_own p.words (words_over all parts p) r (store U h (fields_of s) p.words)
          (store_own U h (fields_of s) p.words)) m.0 refl))
          (g c b m.1 (omega (arith, eq)))
  targets_row (AndConverted p h s con ts) t paths parts are new E w known a b l eq =
      go (targets_row ts t.9 paths.1 (p ∷ parts) (here.0, new.0, are) new.1 E (beyond (hidden_suffixes s) w) known)
      (targets_row ts t.9 paths.1 (p ∷ parts) (here.0, new.0, are) new.1 E w known) (has_index s) refl l eq
    where
      here : IsPart ks p × (0 < p.words) × (p.words ≡ words_before con)
      here = converted_part p h s con ts t

      fits : p.words + words_over all parts p ≤ left_over parts
      fits = part_fits ks p parts here.0 here.1 are new.0

      v : Place
      v = leaving all parts w

      X : tree.Block
      X = at_element s (path U w.slot s ▹ Does (element_converted p parts h con) ▹ targets U (w.slot + hidden_suffixes s) all (p ∷ parts) ts)

      Y : tree.Block
      Y = Does (plain_converted p parts h s con) ▹ targets U w.slot all (p ∷ parts) ts

      go : ((a b : ℕ) → L S (targets U (w.slot + hidden_suffixes s) all (p ∷ parts) ts) E (leaving all (p ∷ parts) w) a
          → b ≡ a + size (targets U (w.slot + hidden_suffixes s) all (p ∷ parts) ts) → TargetsCode P (beyond (hidden_suffixes s) w) all (p ∷ parts) ts a b)
          → ((a b : ℕ) → L S (targets U w.slot all (p ∷ parts) ts) E (leaving all (p ∷ parts) w) a → b ≡ a + size (targets U w.slot all (p ∷ parts) ts)
          → TargetsCode P w all (p ∷ parts) ts a b)
          → (x : Bool) → has_index s ≡ x → L S (if x then X else Y) E v a → b ≡ a + size (if x then X else Y)
          → TargetsCode P w all parts (AndConverted p h s con ts) a b
      go f g true is l eq =
          let c = a + bytes_in (i.Lit (fields_of s) ∷ []) in
          let d = c + size (path U w.slot s) in
          let e = d + bytes_in (element_converted p parts h con) in
          let rest = targets U (w.slot + hidden_suffixes s) all (p ∷ parts) ts in
          let m = next S (Does (i.Lit (fields_of s) ∷ [])) (path U w.slot s ▹ Does (element_converted p parts h con) ▹ rest) E v a (v.depth + 1) l (omega arith) in
          let n = next S (path U w.slot s) (Does (element_converted p parts h con) ▹ rest) E (deeper 1 v) c (v.depth + 1) m.1
          (path_depth U Γ s t.2 t.1 t.8 w.slot v.depth) in
          let o = next S (Does (element_converted p parts h con)) rest E (deeper 1 v) d (w.depth + left_over (p ∷ parts)) n.1
          (element_converted_left p parts h con w.depth fits here.2) in
          and_converted_element c d e (indexed s is) (own_lies S v (i.Lit (fields_of s) ∷ []) E a c (tt, tt) m.0 refl)
          (paths.0 E (deeper 1 v) v.depth refl known c d n.0 refl)
          (subst (λ y. Own P (deeper 1 v) (lift_code p.words (suc (words_over all parts p)) ++ (conversion_code con ++ y ∷ [])) d e) (store_within_same S h (words_after con))
          (own_lies S (deeper 1 v) (element_converted p parts h con) E d e (converted_own p.words (suc (words_over all parts p)) con (store_within U h (words_after con))
          (store_within_own U h (words_after con))) o.0 refl))
          (f e b o.1 (omega (arith, eq)))
      go f g false is l eq =
          let c = a + bytes_in (plain_converted p parts h s con) in
          let rest = targets U w.slot all (p ∷ parts) ts in
          let m = next S (Does (plain_converted p parts h s con)) rest E v a (w.depth + left_over (p ∷ parts)) l (plain_converted_left p parts h s con w.depth fits here.2) in
          and_converted c (not_indexed s is)
          (subst (λ y. Own P v (lift_code p.words (words_over all parts p) ++ (conversion_code con ++ y ∷ [])) a c) (store_same S h (fields_of s) (words_after con))
          (own_lies S v (plain_converted p parts h s con) E a c (converted_own p.words (words_over all parts p) con (store U h (fields_of s) (words_after con))
          (store_own U h (fields_of s) (words_after con))) m.0 refl))
          (g c b m.1 (omega (arith, eq)))

-- Parts that differ, taken one after the other.

abbrev Clear : List Part → List ℕ → Type 0
Clear [] fields = Unit {0}
Clear (q ∷ qs) fields = (Contains fields q.field → ⊥) × Clear qs fields

clear_first : (parts : List Part) (field : ℕ) (fields : List ℕ) → Clear parts (field ∷ fields) → NotAmong field parts
clear_first [] field fields h = tt
clear_first (q ∷ qs) field fields h = (λ e. h.0 (0, omega arith, sym e), clear_first qs field fields h.1)

clear_rest : (parts : List Part) (field : ℕ) (fields : List ℕ) → Clear parts (field ∷ fields) → Clear parts fields
clear_rest [] field fields h = tt
clear_rest (q ∷ qs) field fields h = (λ c. h.0 (suc c.0, omega (arith, c.1), c.2), clear_rest qs field fields h.1)

none_taken : (ts : Targets) (parts : List Part) → AllDiffer (taken ts) → Clear parts (taken ts) → NoneTaken parts ts
unfolding taken AllDiffer
none_taken NoTargets parts differ clear = tt
none_taken (AndTarget p h s r ts) parts differ clear =
    (clear_first parts p.field (taken ts) clear, none_taken ts (p ∷ parts) differ.1 (differ.0, clear_rest parts p.field (taken ts) clear))
none_taken (AndConverted p h s c ts) parts differ clear =
    (clear_first parts p.field (taken ts) clear, none_taken ts (p ∷ parts) differ.1 (differ.0, clear_rest parts p.field (taken ts) clear))

pub none_taken_yet : (ts : Targets) → AllDiffer (taken ts) → NoneTaken [] ts
none_taken_yet ts differ = none_taken ts [] differ tt

pub nothing_written : (table : List Phrase) → AreWritten table []
nothing_written table j q e = cc

-- a procedure without code
abbrev pub bare_laid : Coded → Laid
bare_laid U = record { names = U; routine = U.routine; entries = []; found = []; written = nothing_written (U.routine).phrases }

pub extract_keeps : (U : Coded) (Γ : Scope) → HaveWords Γ → (ts : Targets) (e : Expr) (ks js : Kinds) → words_of e ≡ words_in_all ks → AllDiffer (taken ts)
    → ExprIn Γ e js → TargetsIn Γ ts ks → (z d : ℕ)
    → depth_behind ((forms U (z + hidden_targets ts) e).value ▹ targets U z (words_of e) [] ts) d ≡ d
extract_keeps U Γ words ts e ks js size_is differ h t z d =
    ap (λ n. depth_behind (targets U z n [] ts) (depth_behind (forms U (z + hidden_targets ts) e).value d)) size_is
    ∙ behind (targets U z (words_in_all ks) [] ts) {n = d + (words_in_all ks - 0)}
    (value_depth U Γ e js h (z + hidden_targets ts) d ∙ omega (arith, size_is))
    (targets_keep (bare_laid U) Γ words ks ts t [] tt (none_taken_yet ts differ) z d)

module _ (S : Laid) (Γ : Scope) (words : HaveWords Γ) where
  pub extract_row : (of_record : Bool) (ts : Targets) (e : Expr) (ks js : Kinds) → words_of e ≡ words_in_all ks → AllDiffer (taken ts) → ExprIn Γ e js
      → TargetsIn Γ ts ks → Value S Γ e → Paths S Γ words ks ts → Stands S Γ (Extract of_record ts e)
  extract_row of_record ts e ks js size_is differ h t v paths E w known a b l eq =
      let value = (forms S.names (w.slot + hidden_targets ts) e).value in
      let m = past_value S Γ e js h (targets S.names w.slot (words_of e) [] ts) E (beyond (hidden_targets ts) w) a l in
      let c = a + size value in
      let all_is = sym size_is in
      let rest = subst (λ n. L S (targets S.names w.slot n [] ts) E (record w { depth = w.depth + (n - 0) }) c) size_is
      (subst (λ n. L S (targets S.names w.slot (words_of e) [] ts) E (record w { depth = n }) c) {x = w.depth + words_of e} {y = w.depth + (words_of e - 0)}
      (omega arith) m.1) in
      let bytes : size (targets S.names w.slot (words_of e) [] ts) ≡ size (targets S.names w.slot (words_in_all ks) [] ts) =
      ap (λ n. size (targets S.names w.slot n [] ts)) size_is in
      extract c (v E (beyond (hidden_targets ts) w) known a c m.0 refl)
      (subst (λ n. TargetsCode (laid S) w n [] ts c b) all_is
      (targets_row S Γ words ks ts t paths [] tt (none_taken_yet ts differ) E w known c b rest (omega (arith, eq, bytes))))
