-- What is offered, by the exporters that were gathered under each record of the outermost configuration.
use Rattle.std.proofs.Common.{◌≡◌, ℕ, ◌+◌, ◌<◌, Bool, true, false, ◌&&◌, ◌||◌, List, [], ◌∷◌, ◌++◌, length, map, filter, flat_map, take, get_or, bytes_eq, nat_eq, Option, Some, None, Result, Ok, Err, OnOk, IfOk, slice_get, suc, eqb-true, arith, refl, sym, ap, ◌∙◌, append-nil, if◌then◌else◌}
use Rattle.std.specs.List.{list_any}
use Rattle.std.specs.Option.{unwrap_or}
use Rattle.std.specs.Map.{update}
use Rattle.std.proofs.lemmas.List.{take_more}
use Rattle.std.proofs.lemmas.Option.{none-some, same_Some}
use Rattle.std.proofs.lemmas.Slice.Eq.{bytes_eq-Decides}
use Rattle.config_rules.specs.Exporters.{Spot, same_spot, Outlet, outlets, reached, goes_to}
use Rattle.config_rules.specs.InOrder.{IsInward}
use Rattle.config_rules.specs.Outgoing.{outgoing_at, entries_of, outgoing, spot_of, exporters_in}
use Rattle.config_rules.specs.declared.tree.Exporter.{Exporter}
use Rattle.config_rules.specs.declared.tree.Outgoing.{Outgoing}
use Rattle.config_rules.specs.declared.tree.RecordPair.{RecordPair}
use Rattle.config_rules.specs.declared.tree.Tree.{Tree}
use Rattle.config_rules.specs.declared.tree.TreeScope.{TreeScope}
use Rattle.config_rules.proofs.Entries.{are_both, pick, filtered, filter_split, Falling, lower, falls}
use Rattle.link_tables.specs.Linked.{in_outermost, outermost_exports, offer_of, offered_as, offers}
use Rattle.link_tables.specs.Gathered.{taken, is_out, exporters_out, offer_by, offers_under, offers_by}

pub on_ok : {A E : Type 0} (r : Result A E) (P Q : Type 0) → (P → Q) → OnOk r P → OnOk r Q
on_ok (Ok a) P Q f h = f h
on_ok (Err e) P Q f h = tt

pub if_ok : {A E : Type 0} (r : Result A E) (P Q : A → Type 0) → ((a : A) → P a → Q a) → IfOk r P → IfOk r Q
if_ok (Ok a) P Q f h = f a h
if_ok (Err e) P Q f h = tt

-- ---- one exporter more under a record

turned : (x y : List ℕ) → bytes_eq x y ≡ bytes_eq y x
turned x y = by (bytes_eq x y) (bytes_eq y x) refl refl
  where
    by : (b c : Bool) → bytes_eq x y ≡ b → bytes_eq y x ≡ c → b ≡ c
    by true true p q = refl
    by false false p q = refl
    by true false p q = sym ((bytes_eq-Decides y x).1 (sym ((bytes_eq-Decides x y).0 p))) ∙ q
    by false true p q = sym p ∙ (bytes_eq-Decides x y).1 (sym ((bytes_eq-Decides y x).0 q))

abbrev pub list_in : Option (List Exporter) → List Exporter
list_in o = unwrap_or o []

pub taking : (old new : List ℕ → Option (List Exporter)) (name : List ℕ) (e : Exporter) (es : List Exporter) → list_in (old name) ≡ es → new ≡ update bytes_eq old name (Some (es ++ e ∷ []))
    → (r : List ℕ) → list_in (new r) ≡ list_in (old r) ++ taken (bytes_eq r name) e
taking old new name e es before after r = ap (λ f. list_in (f r)) after ∙ by (bytes_eq name r) refl ∙ ap (λ b. list_in (old r) ++ taken b e) (turned name r)
  where
    by : (b : Bool) → bytes_eq name r ≡ b → list_in (if bytes_eq name r then Some (es ++ e ∷ []) else old r) ≡ list_in (old r) ++ taken (bytes_eq name r) e
    by true h =
        ap (λ c. list_in (if c then Some (es ++ e ∷ []) else old r)) h
        ∙ ap (λ l. l ++ e ∷ []) (sym before ∙ ap (λ n. list_in (old n)) ((bytes_eq-Decides name r).0 h))
        ∙ ap (λ c. list_in (old r) ++ taken c e) (sym h)
    by false h =
        ap (λ c. list_in (if c then Some (es ++ e ∷ []) else old r)) h ∙ sym (append-nil (list_in (old r))) ∙ ap (λ c. list_in (old r) ++ taken c e) (sym h)

-- ---- one entry more

out_behind : (gs : List Outgoing) (g : Outgoing) (r : List ℕ) → exporters_out (gs ++ g ∷ []) r ≡ exporters_out gs r ++ taken (is_out r g) g.exporter
out_behind gs g r = filter_split (λ (h : Outgoing). h.exporter) (is_out r) gs (g ∷ []) ∙ ap (λ l. exporters_out gs r ++ l) (by (is_out r g))
  where
    by : (b : Bool) → exporters_in (if b then g ∷ [] else []) ≡ taken b g.exporter
    by true = refl
    by false = refl

pub not_out : (es : List Exporter) (g : Outgoing) (r : List ℕ) → (g.scope ≡ 0 → ⊥) → es ≡ es ++ taken (is_out r g) g.exporter
not_out es g r h = by (nat_eq 0 g.scope) refl
  where
    by : (b : Bool) → nat_eq 0 g.scope ≡ b → es ≡ es ++ taken (b && bytes_eq r g.record_name) g.exporter
    by true e = absurd (h (sym (eqb-true 0 g.scope e)))
    by false e = sym (append-nil es)

pub is_its : (g : Outgoing) (r : List ℕ) → g.scope ≡ 0 → bytes_eq r g.record_name ≡ is_out r g
is_its g r h = ap (λ s. nat_eq 0 s && bytes_eq r g.record_name) (sym h)

pub out_more : (gs : List Outgoing) (i : ℕ) (g : Outgoing) (r : List ℕ) → i < length gs → g ≡ get_or gs i g → exporters_out (take (i + 1) gs) r ≡ exporters_out (take i gs) r ++ taken (is_out r g) g.exporter
out_more gs i g r less is = ap (λ l. exporters_out l r) (take_more gs i g less ∙ ap (λ h. take i gs ++ h ∷ []) (sym is)) ∙ out_behind (take i gs) g r

-- ---- an export goes to a record of the outermost configuration at most once

two_picks : (x y : Bool) (e : Exporter) → (x ≡ true → y ≡ false) → pick x e ++ pick y e ≡ pick (x || y) e
two_picks true true e h = absurd (let s : true ≡ false = h refl in cc)
two_picks true false e h = refl
two_picks false y e h = refl

once_at_most : (a : Spot) (o : Outlet) (n : ℕ) (bs : List Spot) → Falling n bs
    → exporters_in (filter (λ (g : Outgoing). same_spot a (spot_of g)) (map (outgoing_at o) bs)) ≡ pick (list_any (same_spot a) bs) o.exporter
once_at_most a o n [] h = refl
once_at_most a o n (b ∷ bs) h =
    filtered (λ (g : Outgoing). g.exporter) (λ (g : Outgoing). same_spot a (spot_of g)) (outgoing_at o b) (map (outgoing_at o) bs)
    ∙ ap (λ l. pick (same_spot a b) o.exporter ++ l) (once_at_most a o b.scope bs h.1)
    ∙ two_picks (same_spot a b) (list_any (same_spot a) bs) o.exporter none_below
  where
    none_below : same_spot a b ≡ true → list_any (same_spot a) bs ≡ false
    none_below s = lower a b.scope bs h.1 (let q = eqb-true a.scope b.scope (are_both (nat_eq a.scope b.scope) (bytes_eq a.record_name b.record_name) s).0 in omega (arith, q))

module _ (t : Tree) (inward : IsInward t) where
  all_out : (a : Spot) (os : List Outlet) → exporters_in (filter (λ (g : Outgoing). same_spot a (spot_of g)) (entries_of t os)) ≡ map (λ (o : Outlet). o.exporter) (filter (goes_to t a) os)
  all_out a [] = refl
  all_out a (o ∷ os) =
      filter_split (λ (g : Outgoing). g.exporter) (λ (g : Outgoing). same_spot a (spot_of g)) (map (outgoing_at o) (reached t o.from)) (entries_of t os)
      ∙ ap (λ l. l ++ exporters_in (filter (λ (g : Outgoing). same_spot a (spot_of g)) (entries_of t os))) (once_at_most a o (suc o.from.scope) (reached t o.from) (falls t inward (suc o.from.scope) o.from))
      ∙ ap (λ l. pick (goes_to t a o) o.exporter ++ l) (all_out a os)
      ∙ sym (filtered (λ (p : Outlet). p.exporter) (goes_to t a) o os)

  -- ---- the offers

  map_twice : (r : List ℕ) (os : List Outlet) → map (offer_by r) (map (λ (o : Outlet). o.exporter) os) ≡ map (offer_of r) os
  map_twice r [] = refl
  map_twice r (o ∷ os) = ap (λ l. offer_of r o ∷ l) (map_twice r os)

  module _ (under : List ℕ → List Exporter) (gathers : (r : List ℕ) → under r ≡ exporters_out (outgoing t) r) where
    one_record : (p : RecordPair) → offers_under under p ≡ offered_as t p
    one_record p = ap (map (offer_by p.inside)) (gathers p.inside ∙ all_out (in_outermost p.inside) (outlets t)) ∙ map_twice p.inside (filter (goes_to t (in_outermost p.inside)) (outlets t))

    all_records : (ps : List RecordPair) → offers_by under ps ≡ flat_map (offered_as t) ps
    all_records [] = refl
    all_records (p ∷ ps) = λ j. one_record p j ++ all_records ps j

    exports_at : (ss : List TreeScope) (s : TreeScope) → Some s ≡ slice_get ss 0 → s.exports ≡ outermost_exports ss
    unfolding outermost_exports
    exports_at [] s h = absurd (none-some s (sym h))
    exports_at (x ∷ ss) s h = ap (λ (y : TreeScope). y.exports) (same_Some s x h)

    pub offers_there : (s : TreeScope) → Some s ≡ slice_get t.scopes 0 → offers_by under s.exports ≡ offers t
    unfolding offers
    offers_there s h = all_records s.exports ∙ ap (flat_map (offered_as t)) (exports_at t.scopes s h)

  no_exports : (ss : List TreeScope) → None ≡ slice_get ss 0 → outermost_exports ss ≡ []
  unfolding outermost_exports
  no_exports [] h = refl
  no_exports (s ∷ ss) h = absurd (none-some s h)

  pub no_offers : None ≡ slice_get t.scopes 0 → [] ≡ offers t
  unfolding offers
  no_offers h = ap (flat_map (offered_as t)) (sym (no_exports t.scopes h))
