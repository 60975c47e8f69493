-- The links by what is chosen are those that stand for the wanted items of an image.
use Rattle.std.proofs.Common.{◌≡◌, ℕ, zero, suc, ◌+◌, Bool, true, false, List, [], ◌∷◌, map, Option, Some, None, slice_get, refl, sym, ap, ◌∙◌, if◌then◌else◌, arith}
use Rattle.interface_records.specs.declared.wanted.Wanted.{Wanted as Entry}
use Rattle.object_files.specs.declared.image.Link.{Link}
use Rattle.object_files.specs.declared.image.Link.TheVariants.{Wanted}
use Rattle.loader_rules.specs.Exporters.{Offered, exporters, stamped}
use Rattle.loader_rules.specs.Loaded.{link_to, replaced, link_in}
use Rattle.loader_rules.specs.Parts.{Part}
use Rattle.loader_rules.specs.Wanted.{is_built_in, entry_number}
use Rattle.load_checks.specs.declared.exporters.Exporter.{Exporter}
use Rattle.load_checks.specs.Choosing.{Choice, BuiltIn, One, Bad, choice_by, choice_of, choice_shown, choices_shown, link_by, links_by}
use Rattle.load_checks.specs.Links.{links_from, wanted_links}

abbrev IsFine : Choice → Type 0
IsFine BuiltIn = Unit {0}
IsFine (One g) = Unit {0}
IsFine (Bad f) = ⊥

module _ (p : Part) (wanted : List Entry) where
  by_exporters : (e : Entry) (was : Link) (under all : List Offered) → IsFine (choice_by p e under all) → link_to was e.item.name under ≡ link_by wanted e (choice_by p e under all)
  unfolding link_to
  by_exporters e was [] all fine = absurd fine
  by_exporters e was (o ∷ []) all fine = refl
  by_exporters e was (o ∷ second ∷ os) all fine = absurd fine

  one_link : (e : Entry) (was : Link) → IsFine (choice_of p e) → replaced p wanted was (Some e) ≡ link_by wanted e (choice_of p e)
  unfolding choice_of replaced
  one_link e was = by (is_built_in e.face)
    where
      by : (b : Bool) → IsFine (if b then BuiltIn else choice_by p e (stamped e (exporters p.before e)) (exporters p.before e))
          → (if b then Wanted (entry_number wanted e) else link_to was e.item.name (stamped e (exporters p.before e)))
          ≡ link_by wanted e (if b then BuiltIn else choice_by p e (stamped e (exporters p.before e)) (exporters p.before e))
      by true fine = refl
      by false fine = by_exporters e was (stamped e (exporters p.before e)) (exporters p.before e) fine

  is_fine : (x : Option Exporter) → IsFine (choice_shown x)
  is_fine None = tt
  is_fine (Some x) = tt

  from : (n : ℕ) (es : List Entry) (xs : List (Option Exporter)) → ((k : ℕ) → slice_get p.image.wanted (n + k) ≡ slice_get es k) → choices_shown xs ≡ map (choice_of p) es
      → links_by wanted es (choices_shown xs) ≡ links_from p wanted n es
  unfolding links_from link_in
  from n [] xs at are = refl
  from n (e ∷ es) [] at are = absurd (let q = are in cc)
  from n (e ∷ es) (x ∷ xs) at are =
      let here : choice_shown x ≡ choice_of p e = heads are in
      let fine : IsFine (choice_of p e) = (let P : Choice → Type 0 = λ c. IsFine c in along P here (is_fine x)) in
      let there : slice_get p.image.wanted n ≡ Some e = ap (λ m. slice_get p.image.wanted m) {x = n} {y = n + 0} (omega arith) ∙ at zero in
      let first : link_by wanted e (choice_shown x) ≡ replaced p wanted (Wanted n) (slice_get p.image.wanted n) =
      ap (link_by wanted e) here ∙ (sym (one_link e (Wanted n) fine) ∙ ap (replaced p wanted (Wanted n)) (sym there)) in
      let rest : links_by wanted es (choices_shown xs) ≡ links_from p wanted (suc n) es =
      from (suc n) es xs (λ k. ap (λ m. slice_get p.image.wanted m) {x = suc n + k} {y = n + suc k} (omega arith) ∙ at (suc k)) (tails are) in
      (λ j. first j ∷ rest j)
    where
      heads : {a b : Choice} {cs ds : List Choice} → a ∷ cs ≡ b ∷ ds → a ≡ b
      heads q = cc

      tails : {a b : Choice} {cs ds : List Choice} → a ∷ cs ≡ b ∷ ds → cs ≡ ds
      tails q = cc

      along : (P : Choice → Type 0) {a b : Choice} → a ≡ b → P a → P b
      along P q h = rw (sym q) h

  pub links_are : (xs : List (Option Exporter)) → choices_shown xs ≡ map (choice_of p) p.image.wanted → links_by wanted p.image.wanted (choices_shown xs) ≡ wanted_links wanted p
  links_are xs are = from 0 p.image.wanted xs (λ k. ap (λ m. slice_get p.image.wanted m) {x = 0 + k} {y = k} (omega arith)) are
