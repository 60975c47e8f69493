-- The turns of going through the statements of a configuration.
use Rattle.std.proofs.Common.{◌≡◌, ℕ, suc, true, false, not, List, [], ◌∷◌, ◌++◌, Ok, Err, map, is_some, refl, sym, ap, subst, ◌∙◌}
use Rattle.std.specs.Prelude.{reverse, nat_lt}
use Rattle.std.proofs.lemmas.List.{reverse-append, map-append}
use Rattle.check_scopes.specs.Scopes.{has, innermost, outer, nothing, with_name}
use Rattle.cmesa_grammar.specs.Syntax.{Identifier, Configuration, Configured, Statements, NoStatements, AndDeclare, AndInstance}
use Rattle.cmesa_grammar.specs.declared.syntax.Heading.{Heading}
use Rattle.cmesa_grammar.specs.declared.syntax.Instantiation.{Instantiation}
use Rattle.config_rules.specs.Components.{heading_of, own_name as name_of}
use Rattle.config_rules.specs.Template.{Template, Gone, Parts, NoParts, exported, instance_names}
use Rattle.config_rules.specs.Through.{Answer, ◌>>=◌, Module, Nested, Made, add, declare, instance, statements, through, unless, headed, each_name, each_control}
use Rattle.mesa_base.specs.declared.limits.TheConstants.{CONFIGURATION_DEPTH}
use Rattle.config_rules.specs.declared.fault.TreeCause.TheVariants.{TwiceNamed, TooNested, RecordClash, UnknownRecord}
use Rattle.config_rules.specs.declared.fault.TreeFault.{TreeFault}
use Rattle.config_rules.specs.declared.fault.TreeFault.TheVariants.{At}
use Rattle.config_templates.specs.Answers.{Stops}
use Rattle.config_templates.specs.Found.{made_of}
use Rattle.config_templates.specs.Going.{declared, fits, gone_on, names_so_far, own_name, Goes, IsNamed}
use Rattle.config_templates.specs.Known.{Knows}
use Rattle.check_scopes.specs.declared.index.Index.{Index}
use Rattle.config_templates.specs.Shown.{before, chained, followed}
use Rattle.config_templates.specs.declared.template.TemplatePart.{TemplatePart}
use Rattle.config_templates.specs.declared.template.TemplatePart.TheVariants as part
use Rattle.config_templates.specs.declared.so_far.SoFar.{SoFar}
use Rattle.config_templates.proofs.AnswerLaws.{ok, err, then, fails, stops, stops_as, stands, joined, passes}

-- ---- parts, and one more behind them

pub followed_more : (ps : List TemplatePart) (p : TemplatePart) (rest : Parts) → followed (ps ++ p ∷ []) rest ≡ followed ps (before p rest)
unfolding followed
followed_more [] p rest = refl
followed_more (q ∷ ps) p rest = ap (before q) (followed_more ps p rest)

pub followed_none : (ps : List TemplatePart) → followed ps NoParts ≡ chained ps
unfolding followed chained
followed_none [] = refl
followed_none (p ∷ ps) = ap (before p) (followed_none ps)

pub names_more : (ps : List TemplatePart) (p : TemplatePart) → names_so_far (ps ++ p ∷ []) ≡ own_name p ∷ names_so_far ps
names_more ps p = ap reverse (map-append own_name ps (p ∷ [])) ∙ reverse-append (map own_name ps) (own_name p ∷ [])

pub named_more : (index : Index (Unit {0})) (ps longer : List TemplatePart) (p : TemplatePart) (x : List ℕ) → x ≡ own_name p → longer ≡ ps ++ p ∷ []
    → Knows index (x ∷ names_so_far ps) → Knows index (names_so_far longer)
named_more index ps longer p x e l k = subst (Knows index) (ap (λ y. y ∷ names_so_far ps) e ∙ sym (names_more ps p) ∙ ap names_so_far (sym l)) k

own_made : (p : TemplatePart) → (made_of p).part.name ≡ own_name p
own_made (part.Module p n) = refl
own_made (part.Nested p t) = refl

before_added : (p : TemplatePart) (rest : Parts) → add (made_of p).part (made_of p).thing rest ≡ before p rest
unfolding add
before_added (part.Module p n) rest = refl
before_added (part.Nested p t) rest = refl

-- ---- statements

module _ (ms : List Module) (d : ℕ) (s : Nested) (parts : List TemplatePart) (left : Statements) where
  abbrev put : Parts → Answer Parts
  put ps = Ok (followed parts ps)

  abbrev rest_in : Nested → Answer Parts
  rest_in n = statements ms d n (names_so_far parts) left

  pub declaration : (c : Configuration) → gone_on ms d s parts (AndDeclare c left) ≡ declared ms d s c >>= (λ n. gone_on ms d n parts left)
  unfolding gone_on statements ◌>>=◌
  declaration c =
      let is_there : Answer (Unit {0}) = unless (is_some (innermost s (name_of c).name)) TwiceNamed (name_of c).place in
      let gone : Answer Template = through ms (suc d) s c in
      let then_rest : Template → Answer Parts = λ t. rest_in (declare (name_of c).name t s) in
      let then_names : Template → Answer Nested = λ t. Ok (declare (name_of c).name t s) in
      joined is_there (λ _. gone >>= then_rest) put
      ∙ ap (λ h. is_there >>= h) (λ i _. joined gone then_rest put i)
      ∙ sym (joined is_there (λ _. gone >>= then_names) (λ n. rest_in n >>= put)
      ∙ ap (λ h. is_there >>= h) (λ i _. joined gone then_names (λ n. rest_in n >>= put) i))

  pub declares : (c : Configuration) (n : Nested) → declared ms d s c ≡ Ok n → gone_on ms d s parts (AndDeclare c left) ≡ gone_on ms d n parts left
  declares c n e = declaration c ∙ then _ _ n e

  pub declaration_stops : (c : Configuration) (e : TreeFault) → Stops (declared ms d s c) e → Stops (gone_on ms d s parts (AndDeclare c left)) e
  declaration_stops c e h = stops_as _ _ e (declaration c) (stops _ _ e h)

  put_more : (p : TemplatePart) → ◌≡◌ {A = Parts → Answer Parts} (λ ps. Ok (followed parts (add (made_of p).part (made_of p).thing ps))) (λ ps. Ok (followed (parts ++ p ∷ []) ps))
  put_more p = λ i ps. (ap (λ q. put q) (before_added p ps) ∙ ap (λ q. ok q) (sym (followed_more parts p ps))) i

  names_then : (p : TemplatePart) → (made_of p).part.name ∷ names_so_far parts ≡ names_so_far (parts ++ p ∷ [])
  names_then p = ap (λ x. x ∷ names_so_far parts) (own_made p) ∙ sym (names_more parts p)

  pub instanced : (i : Instantiation) (p : TemplatePart) → instance ms s (names_so_far parts) i ≡ Ok (made_of p)
      → gone_on ms d s parts (AndInstance i left) ≡ gone_on ms d s (parts ++ p ∷ []) left
  unfolding gone_on statements ◌>>=◌
  instanced i p e =
      let then_rest : Made → Answer Parts = λ m. statements ms d s (m.part.name ∷ names_so_far parts) left >>= (λ ps. Ok (add m.part m.thing ps)) in
      let after : Answer Parts = statements ms d s ((made_of p).part.name ∷ names_so_far parts) left in
      ap (λ x. x >>= put) (then (instance ms s (names_so_far parts) i) then_rest (made_of p) e)
      ∙ joined after (λ ps. Ok (add (made_of p).part (made_of p).thing ps)) put
      ∙ ap (λ h. after >>= h) (put_more p)
      ∙ ap (λ n. statements ms d s n left >>= (λ ps. Ok (followed (parts ++ p ∷ []) ps))) (names_then p)

  pub instance_stops : (i : Instantiation) (e : TreeFault) → Stops (instance ms s (names_so_far parts) i) e → Stops (gone_on ms d s parts (AndInstance i left)) e
  unfolding gone_on statements
  instance_stops i e h = stops _ _ e (stops _ _ e h)

-- ---- from one statement to the next

module _ (ms : List Module) (d : ℕ) where
  pub begins : (s : Nested) (so_far : SoFar) (all : Statements) → IsNamed so_far → Goes ms d s so_far all s so_far all
  begins s so_far all named = record { named = named; same = refl; around = refl }

  pub goes_on : (s t u : Nested) (m n o : SoFar) (all some left : Statements) → Goes ms d s m all t n some → Goes ms d t n some u o left → Goes ms d s m all u o left
  goes_on s t u m n o all some left p q = record { named = q.named; same = p.same ∙ q.same; around = q.around ∙ p.around }

  module _ (s : Nested) (h : Heading) (all : Statements) (few : nat_lt CONFIGURATION_DEPTH d ≡ false) where
    from_start : (t : Nested) (parts : List TemplatePart) → t ≡ nothing ∷ s → parts ≡ [] → through ms d s (Configured h all) ≡ gone_on ms d t parts all >>= (λ ps. headed h ps)
    unfolding through gone_on followed ◌>>=◌
    from_start t parts e none =
        then (unless (nat_lt CONFIGURATION_DEPTH d) TooNested h.name.place) (λ _. statements ms d (nothing ∷ s) [] all >>= (λ ps. headed h ps)) tt
        (passes (nat_lt CONFIGURATION_DEPTH d) TooNested h.name.place few)
        ∙ ap (λ n. statements ms d n [] all >>= (λ ps. headed h ps)) (sym e)
        ∙ sym (joined (statements ms d t [] all) (λ ps. Ok (followed [] ps)) (λ ps. headed h ps))
        ∙ ap (λ q. gone_on ms d t q all >>= (λ ps. headed h ps)) (sym none)

    at_end : (u : Nested) (parts : List TemplatePart) (left : Statements) → left ≡ NoStatements → gone_on ms d u parts left >>= (λ ps. headed h ps) ≡ headed h (chained parts)
    unfolding gone_on statements ◌>>=◌
    at_end u parts left e = ap (λ ss. gone_on ms d u parts ss >>= (λ ps. headed h ps)) e ∙ ap (headed h) (followed_none parts)

    -- where all is gone through, and where it stops on the way
    pub through_all : (t u : Nested) (m n : SoFar) (left : Statements) → t ≡ nothing ∷ s → m.parts ≡ [] → Goes ms d t m all u n left → left ≡ NoStatements
        → through ms d s (Configured h all) ≡ headed h (chained n.parts)
    through_all t u m n left e none goes done =
        from_start t m.parts e none ∙ ap (λ x. x >>= (λ ps. headed h ps)) goes.same ∙ at_end u n.parts left done

    pub through_stops : (t u : Nested) (m n : SoFar) (left : Statements) (fault : TreeFault) → t ≡ nothing ∷ s → m.parts ≡ [] → Goes ms d t m all u n left
        → Stops (gone_on ms d u n.parts left) fault → Stops (through ms d s (Configured h all)) fault
    through_stops t u m n left fault e none goes stop =
        stops_as _ _ fault (from_start t m.parts e none ∙ ap (λ x. x >>= (λ ps. headed h ps)) goes.same) (stops _ _ fault stop)

-- ---- a declaration

pub own_is : (h : Heading) (ss : Statements) → name_of (Configured h ss) ≡ h.name
unfolding heading_of
own_is h ss = refl

module _ (ms : List Module) (d : ℕ) (s : Nested) (c : Configuration) (n : Identifier) (e : n ≡ name_of c) where
  there : (x : List ℕ) → x ≡ n.name → is_some (innermost s x) ≡ is_some (innermost s (name_of c).name)
  there x o = ap (λ y. is_some (innermost s y)) (o ∙ ap (λ (i : Identifier). i.name) e)

  pub declared_twice : (x : List ℕ) → x ≡ n.name → is_some (innermost s x) ≡ true → declared ms d s c ≡ Err (At TwiceNamed n.place)
  declared_twice x o t = fails _ _ _ (stands _ TwiceNamed (name_of c).place (sym (there x o) ∙ t)) ∙ ap (λ (i : Identifier). err (At TwiceNamed i.place)) (sym e)

  behind : (x : List ℕ) → x ≡ n.name → is_some (innermost s x) ≡ false → declared ms d s c ≡ through ms (suc d) s c >>= (λ t. Ok (declare (name_of c).name t s))
  behind x o t = then _ _ tt (passes _ TwiceNamed (name_of c).place (sym (there x o) ∙ t))

  pub declared_stops : (x : List ℕ) (k : ℕ) (fault : TreeFault) → x ≡ n.name → is_some (innermost s x) ≡ false → k ≡ suc d → Stops (through ms k s c) fault → Stops (declared ms d s c) fault
  declared_stops x k fault o t m stop = stops_as _ _ fault (behind x o t) (stops _ _ fault (subst (λ j. Stops (through ms j s c) fault) m stop))

  pub declared_done : (x y : List ℕ) (k : ℕ) (t u : Template) (s₁ s₂ : Nested) → x ≡ n.name → is_some (innermost s x) ≡ false → k ≡ suc d → through ms k s c ≡ Ok t
      → s₁ ≡ s → y ≡ n.name → u ≡ t → s₂ ≡ with_name y u (innermost s₁) ∷ outer s₁ → declared ms d s c ≡ Ok s₂
  declared_done x y k t u s₁ s₂ o f m gone e₁ o₂ e₂ is =
      behind x o f
      ∙ then _ _ t (ap (λ j. through ms j s c) (sym m) ∙ gone)
      ∙ ap (λ z. ok z) (sym (is
      ∙ ap (λ r. with_name y u (innermost r) ∷ outer r) e₁
      ∙ ap (λ z. with_name z u (innermost s) ∷ outer s) (o₂ ∙ ap (λ (i : Identifier). i.name) e)
      ∙ ap (λ z. with_name (name_of c).name z (innermost s) ∷ outer s) e₂))

pub too_deep : (ms : List Module) (d : ℕ) (s : Nested) (h : Heading) (all : Statements) → nat_lt CONFIGURATION_DEPTH d ≡ true → through ms d s (Configured h all) ≡ Err (At TooNested h.name.place)
unfolding through
too_deep ms d s h all e = fails _ _ _ (stands (nat_lt CONFIGURATION_DEPTH d) TooNested h.name.place e)

-- ---- the heading

pub fits_then : (h : Heading) (ps : Parts) → headed h ps ≡ fits h ps >>= (λ _. Ok (Gone h ps))
unfolding headed fits ◌>>=◌
fits_then h ps =
    let imports : Answer (Unit {0}) = each_name (λ r. has r (exported ps)) RecordClash [] h.imports in
    let exports : Answer (Unit {0}) = each_name (λ r. not (has r (exported ps))) UnknownRecord [] h.exports in
    let control : Answer (Unit {0}) = each_control (instance_names ps) h.control in
    let made : Unit {0} → Answer Template = λ _. Ok (Gone h ps) in
    sym (joined imports (λ _. exports >>= (λ _. control)) made ∙ ap (λ f. imports >>= f) (λ i _. joined exports (λ _. control) made i))
