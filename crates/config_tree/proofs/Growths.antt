-- What parts add, one after the other.
use Rattle.std.proofs.Common.{◌≡◌, ℕ, zero, suc, ◌+◌, ◌<◌, length, flat_map, get_or, Bool, true, false, cond, bytes_eq, List, [], ◌∷◌, ◌++◌, Option, Some, None, unwrap_or, refl, sym, ap, ◌∙◌, append-nil, append_assoc, length-append, arith, if◌then◌else◌}
use Rattle.std.specs.Option.{option_or}
use Rattle.std.proofs.lemmas.List.{nil_from_length}
use Rattle.mesa_types.specs.declared.faces.Shape.{Shape}
use Rattle.check_scopes.specs.Scopes.{Scope, nothing, over, with_name}
use Rattle.config_rules.specs.cmesa_grammar.specs.Syntax.{Identifier}
use Rattle.config_rules.specs.Template.{Template, Gone, Parts, NoParts, heading_in, parts_in, modules_of, scopes_of}
use Rattle.config_rules.specs.Through.{Module}
use Rattle.config_rules.specs.Grown.{Starts, inner_scopes, inner_instances, instances_in, scopes_in, scope_for, shape_in, shape_of, starts, started_by, control_of, once}
use Rattle.config_rules.specs.declared.tree.TreeInstance.{TreeInstance}
use Rattle.config_rules.specs.declared.tree.TreeScope.{TreeScope}
use Rattle.config_rules.proofs.Made.{scopes_length, template_length}
use Rattle.config_templates.specs.Shown.{before, chained, part_of}
use Rattle.config_templates.specs.Size.{nodes, nodes_in}
use Rattle.config_templates.specs.declared.template.Part.{Part}
use Rattle.config_templates.specs.declared.template.TemplatePart.{TemplatePart}
use Rattle.config_templates.specs.declared.template.TemplatePart.TheVariants.{Module as OfModule, Nested as OfNested}
use Rattle.config_tree.specs.declared.growth.Growth.{Growth}
use Rattle.config_tree.specs.Growing.{nameless, Within, PartsWithin, Adds, Grows, PartGrows, instance_of, name_in}

-- ---- lists of parts

pub first_part : (p : TemplatePart) (more all : List TemplatePart) → all ≡ p ∷ more → chained all ≡ before p (chained more)
unfolding chained
first_part p more all e = ap chained e

pub no_part : (all : List TemplatePart) → length all ≡ 0 → chained all ≡ NoParts
unfolding chained
no_part all e = ap chained (nil_from_length all e)

pub split_within : (n : ℕ) (p : TemplatePart) (ps : Parts) → PartsWithin n (before p ps) → PartsWithin n (before p NoParts) × PartsWithin n ps
unfolding PartsWithin
split_within n (OfModule p c) ps h = ((h.0, tt), h.1)
split_within n (OfNested p t) ps h = ((h.0, tt), h.1)

pub parts_within : (n : ℕ) (t : Template) → Within n t → PartsWithin n (parts_in t)
unfolding Within parts_in
parts_within n (Gone h ps) w = w

pub split_nodes : (p : TemplatePart) (ps : Parts) → nodes_in (before p ps) ≡ nodes_in (before p NoParts) + nodes_in ps
unfolding nodes_in
split_nodes (OfModule p c) ps = omega arith
split_nodes (OfNested p t) ps = omega arith

pub nodes_is : (t : Template) → nodes t ≡ 1 + nodes_in (parts_in t)
unfolding nodes parts_in
nodes_is (Gone h ps) = refl

-- ---- what they add

module _ (shapes : List Shape) (path : List (List ℕ)) (scope : ℕ) where
  scopes_split : (n : ℕ) (p : TemplatePart) (ps : Parts)
      → inner_scopes scope n (before p ps) ≡ inner_scopes scope n (before p NoParts) ++ inner_scopes scope (n + length (inner_scopes scope n (before p NoParts))) ps
  unfolding inner_scopes
  scopes_split n (OfModule p c) ps = ap (λ k. inner_scopes scope k ps) {x = n} {y = n + 0} (omega arith)
  scopes_split n (OfNested p t) ps =
      let own = scope_for scope (part_of p) (heading_in t) ∷ scopes_in n (n + 1) t in
      ap (λ k. own ++ inner_scopes scope k ps) {x = n + 1 + scopes_of t} {y = n + length own} (omega (arith, scopes_length n (n + 1) t))
      ∙ ap (λ l. l ++ inner_scopes scope (n + length l) ps) (sym (append-nil own))

  instances_split : (n : ℕ) (p : TemplatePart) (ps : Parts)
      → inner_instances (nameless shapes) path scope n (before p ps)
      ≡ inner_instances (nameless shapes) path scope n (before p NoParts) ++ inner_instances (nameless shapes) path scope (n + length (inner_scopes scope n (before p NoParts))) ps
  unfolding inner_scopes inner_instances
  instances_split n (OfModule p c) ps =
      ap (λ k. record { path = path ++ p.name ∷ []; component = c; scope = scope; shape = shape_of (nameless shapes) c; imports = p.imports; exports = p.exports }
      ∷ inner_instances (nameless shapes) path scope k ps) {x = n} {y = n + 0} (omega arith)
  instances_split n (OfNested p t) ps =
      let own = scope_for scope (part_of p) (heading_in t) ∷ scopes_in n (n + 1) t in
      let made = instances_in (nameless shapes) (path ++ p.name ∷ []) n (n + 1) t in
      ap (λ k. made ++ inner_instances (nameless shapes) path scope k ps) {x = n + 1 + scopes_of t} {y = n + length own} (omega (arith, scopes_length n (n + 1) t))
      ∙ ap (λ l. made ++ inner_instances (nameless shapes) path scope (n + length l) ps) (sym (append-nil own))
      ∙ ap (λ l. l ++ inner_instances (nameless shapes) path scope (n + length (own ++ [])) ps) (sym (append-nil made))

  pub adds_none : (g : Growth) → Adds shapes path scope g g NoParts
  unfolding inner_scopes inner_instances
  adds_none g = record { scopes = sym (append-nil g.scopes); instances = sym (append-nil g.instances) }

  added_behind : {A : Type 0} (old mid new xs : List A) (f : ℕ → List A) (m n : ℕ) → mid ≡ old ++ xs → new ≡ mid ++ f m → m ≡ n → new ≡ old ++ (xs ++ f n)
  added_behind old mid new xs f m n e g k = g ∙ ap (λ l. l ++ f m) e ∙ append_assoc old xs (f m) ∙ ap (λ j. old ++ (xs ++ f j)) k

  pub adds_more : (old mid new : Growth) (p : TemplatePart) (ps : Parts) → Adds shapes path scope old mid (before p NoParts) → Adds shapes path scope mid new ps
      → Adds shapes path scope old new (before p ps)
  adds_more old mid new p ps a b =
      let first = inner_scopes scope (length old.scopes) (before p NoParts) in
      let k : length mid.scopes ≡ length old.scopes + length first = ap length a.scopes ∙ length-append old.scopes first in
      record {
        scopes = added_behind old.scopes mid.scopes new.scopes first (λ j. inner_scopes scope j ps) (length mid.scopes) (length old.scopes + length first) a.scopes b.scopes k
            ∙ ap (λ l. old.scopes ++ l) (sym (scopes_split (length old.scopes) p ps));
        instances = added_behind old.instances mid.instances new.instances (inner_instances (nameless shapes) path scope (length old.scopes) (before p NoParts))
            (λ j. inner_instances (nameless shapes) path scope j ps) (length mid.scopes) (length old.scopes + length first) a.instances b.instances k
            ∙ ap (λ l. old.instances ++ l) (sym (instances_split (length old.scopes) p ps));
      }

-- ---- what their names start

abbrev pub start_in : List Starts → List ℕ → Option (List ℕ)
start_in [] x = None
start_in (s ∷ ss) x = cond (bytes_eq s.name x) (Some s.instances) (start_in ss x)

pub started_is : (ss : List Starts) (x : List ℕ) → started_by ss x ≡ unwrap_or (start_in ss x) []
unfolding started_by
started_is [] x = refl
started_is (s ∷ ss) x = by (bytes_eq s.name x) (started_is ss x)
  where
    by : (b : Bool) → started_by ss x ≡ unwrap_or (start_in ss x) [] → (if b then s.instances else started_by ss x) ≡ unwrap_or (cond b (Some s.instances) (start_in ss x)) []
    by true h = refl
    by false h = h

module _ (shapes : List Shape) (path : List (List ℕ)) (scope k : ℕ) where
  starts_split : (n : ℕ) (p : TemplatePart) (ps : Parts) → starts n (before p ps) ≡ starts n (before p NoParts) ++ starts (n + length (inner_instances (nameless shapes) path scope k (before p NoParts))) ps
  unfolding starts inner_instances
  starts_split n (OfModule p c) ps = refl
  starts_split n (OfNested p t) ps =
      let made = instances_in (nameless shapes) (path ++ p.name ∷ []) k (k + 1) t in
      ap (λ j. record { name = p.name; instances = control_of n t } ∷ starts j ps) {x = n + modules_of t} {y = n + length made}
      (omega (arith, template_length (nameless shapes) (path ++ p.name ∷ []) k (k + 1) t))
      ∙ ap (λ l. record { name = p.name; instances = control_of n t } ∷ starts (n + length l) ps) (sym (append-nil made))

or_later : (o : Option (List ℕ)) (b : Bool) (s : List ℕ) (r : Option (List ℕ)) → option_or (option_or o (cond b (Some s) None)) r ≡ option_or o (cond b (Some s) r)
or_later (Some x) b s r = refl
or_later None true s r = refl
or_later None false s r = refl

or_none : (o : Option (List ℕ)) → option_or o None ≡ o
or_none (Some x) = refl
or_none None = refl

-- what names start so far, and then those of the rest
abbrev pub Starting : Scope (List ℕ) → (next : ℕ) → Parts → (whole : List Starts) → Type 0
Starting names next ps whole = (x : List ℕ) → option_or (names x) (start_in (starts next ps) x) ≡ start_in whole x

pub starting_none : (next : ℕ) (ps : Parts) (names : Scope (List ℕ)) → names ≡ nothing → Starting names next ps (starts next ps)
starting_none next ps names e x = ap (λ (s : Scope (List ℕ)). option_or (s x) (start_in (starts next ps) x)) e

pub starting_more : (shapes : List Shape) (path : List (List ℕ)) (scope : ℕ) (old mid : Growth) (p : TemplatePart) (ps : Parts) (started name : List ℕ) (names later : Scope (List ℕ)) (whole : List Starts)
    → PartGrows shapes path scope old mid p started → name ≡ name_in p → later ≡ over names (with_name name started nothing)
    → Starting names (length old.instances) (before p ps) whole → Starting later (length mid.instances) ps whole
starting_more shapes path scope old mid p ps started name names later whole g same declared before_now x =
    let made = inner_instances (nameless shapes) path scope (length old.scopes) (before p NoParts) in
    let n : length mid.instances ≡ length old.instances + length made = ap length g.added.instances ∙ length-append old.instances made in
    let rest = starts (length mid.instances) ps in
    let split : starts (length old.instances) (before p ps) ≡ record { name = name; instances = started } ∷ rest =
    starts_split shapes path scope (length old.scopes) (length old.instances) p ps
    ∙ ap (λ l. l ++ starts (length old.instances + length made) ps) g.named
    ∙ ap (λ j. record { name = name_in p; instances = started } ∷ starts j ps) (sym n)
    ∙ ap (λ y. record { name = y; instances = started } ∷ rest) (sym same) in
    ap (λ (s : Scope (List ℕ)). option_or (s x) (start_in rest x)) declared
    ∙ or_later (names x) (bytes_eq name x) started (start_in rest x)
    ∙ ap (λ l. option_or (names x) (start_in l x)) (sym split)
    ∙ before_now x

pub starting_all : (names : Scope (List ℕ)) (next : ℕ) (whole : List Starts) → Starting names next NoParts whole → (x : List ℕ) → unwrap_or (names x) [] ≡ started_by whole x
unfolding starts
starting_all names next whole all x = ap (λ o. unwrap_or o []) (sym (or_none (names x)) ∙ all x) ∙ sym (started_is whole x)

flat_map_same : {A B : Type 0} (f g : A → List B) (xs : List A) → ((x : A) → f x ≡ g x) → flat_map f xs ≡ flat_map g xs
flat_map_same f g [] same = refl
flat_map_same f g (x ∷ xs) same = (λ j. same x j ++ flat_map f xs) ∙ ap (λ l. g x ++ l) (flat_map_same f g xs same)

control_is : (next : ℕ) (t : Template) → once [] (flat_map (λ (i : Identifier). started_by (starts next (parts_in t)) i.name) (heading_in t).control) ≡ control_of next t
unfolding control_of parts_in heading_in
control_is next (Gone h ps) = refl

pub control_all : (next : ℕ) (t : Template) (names : Scope (List ℕ)) (listed : List Identifier) → listed ≡ (heading_in t).control
    → ((x : List ℕ) → unwrap_or (names x) [] ≡ started_by (starts next (parts_in t)) x) → once [] (flat_map (λ (i : Identifier). unwrap_or (names i.name) []) listed) ≡ control_of next t
control_all next t names listed e same =
    ap (λ l. once [] (flat_map (λ (i : Identifier). unwrap_or (names i.name) []) l)) e
    ∙ ap (once []) (flat_map_same _ (λ (i : Identifier). started_by (starts next (parts_in t)) i.name) (heading_in t).control (λ i. same i.name))
    ∙ control_is next t

-- ---- a template and its parts

pub scopes_are : (around next : ℕ) (t : Template) → inner_scopes around next (parts_in t) ≡ scopes_in around next t
unfolding scopes_in parts_in
scopes_are around next (Gone h ps) = refl

pub instances_are : (ms : List Module) (path : List (List ℕ)) (scope next : ℕ) (t : Template) → inner_instances ms path scope next (parts_in t) ≡ instances_in ms path scope next t
unfolding instances_in parts_in
instances_are ms path scope next (Gone h ps) = refl

-- ---- one module

pub shape_there : (shapes : List Shape) (c : ℕ) (s d : Shape) → c < length shapes → s ≡ get_or shapes c d → shape_of (nameless shapes) c ≡ s
unfolding shape_in
shape_there [] c s d less e = absurd (omega arith)
shape_there (x ∷ xs) zero s d less e = sym e
shape_there (x ∷ xs) (suc c) s d less e = shape_there xs c s d (omega arith) e

pub module_grows : (shapes : List Shape) (path : List (List ℕ)) (scope : ℕ) (old new : Growth) (p : Part) (c : ℕ) (x : TreeInstance) (n : ℕ) (started : List ℕ) → new.scopes ≡ old.scopes
    → new.instances ≡ old.instances ++ x ∷ [] → x ≡ instance_of shapes path scope p c → started ≡ n ∷ [] → n ≡ length old.instances → PartGrows shapes path scope old new (OfModule p c) started
unfolding inner_scopes inner_instances starts
module_grows shapes path scope old new p c x n started same grown is only number = record {
  added = record { scopes = same ∙ sym (append-nil old.scopes); instances = grown ∙ ap (λ y. old.instances ++ y ∷ []) is };
  named = ap (λ l. record { name = p.name; instances = l } ∷ []) (sym (only ∙ ap (λ k. k ∷ []) number));
}

-- a nested configuration's scope, and what grows in it
pub nested_grows : (shapes : List Shape) (path inside : List (List ℕ)) (scope k : ℕ) (old mid new : Growth) (p : Part) (t : Template) (s : TreeScope) (started : List ℕ) → inside ≡ path ++ p.name ∷ []
    → k ≡ length old.scopes → s ≡ scope_for scope (part_of p) (heading_in t) → mid.scopes ≡ old.scopes ++ s ∷ [] → mid.instances ≡ old.instances → Grows shapes inside k mid new t started
    → PartGrows shapes path scope old new (OfNested p t) started
unfolding inner_scopes inner_instances starts
nested_grows shapes path inside scope k old mid new p t s started longer number is around same g = record {
  added = record {
    scopes =
        g.added.scopes
        ∙ ap (λ l. l ++ inner_scopes k (length mid.scopes) (parts_in t)) (around ∙ ap (λ y. old.scopes ++ y ∷ []) is)
        ∙ append_assoc old.scopes (own ∷ []) (inner_scopes k (length mid.scopes) (parts_in t))
        ∙ (λ j. old.scopes ++ (own ∷ inner_scopes (number j) (many j) (parts_in t)))
        ∙ ap (λ l. old.scopes ++ (own ∷ l)) (scopes_are (length old.scopes) (length old.scopes + 1) t ∙ sym (append-nil (scopes_in (length old.scopes) (length old.scopes + 1) t)));
    instances =
        g.added.instances
        ∙ (λ j. same j ++ inner_instances (nameless shapes) (longer j) (number j) (many j) (parts_in t))
        ∙ ap (λ l. old.instances ++ l)
        (instances_are (nameless shapes) (path ++ p.name ∷ []) (length old.scopes) (length old.scopes + 1) t
        ∙ sym (append-nil (instances_in (nameless shapes) (path ++ p.name ∷ []) (length old.scopes) (length old.scopes + 1) t)));
  };
  named = ap (λ l. record { name = p.name; instances = l } ∷ []) (sym (g.control ∙ ap (λ l. control_of (length l) t) same));
}
  where
    own : TreeScope
    own = scope_for scope (part_of p) (heading_in t)

    many : length mid.scopes ≡ length old.scopes + 1
    many = ap length around ∙ length-append old.scopes (s ∷ [])

pub within_module : (p : Part) (c n : ℕ) → PartsWithin n (before (OfModule p c) NoParts) → c < n
unfolding PartsWithin
within_module p c n h = h.0

pub within_nested : (p : Part) (t : Template) (n : ℕ) → PartsWithin n (before (OfNested p t) NoParts) → Within n t
unfolding PartsWithin
within_nested p t n h = h.0

pub nested_nodes : (q : TemplatePart) (p : Part) (t : Template) → q ≡ OfNested p t → nodes_in (before q NoParts) ≡ nodes t
unfolding nodes_in
nested_nodes q p t e = ap (λ r. nodes_in (before r NoParts)) e ∙ add_zero (nodes t)
  where
    add_zero : (n : ℕ) → n + 0 ≡ n
    add_zero n = omega arith
