-- What the search for an arm reads where an activation waits.
use Rattle.std.proofs.Common.{◌≡◌, ℕ, ◌<◌, List, length, get_or, Bool, true, false, Option, None, Some, refl, sym, ap, subst, ◌∙◌, arith}
use Rattle.std.specs.Prelude.{slice_get, IsSome, IsSomeAnd}
use Rattle.std.specs.List.{AllZip}
use Rattle.std.proofs.lemmas.Option.{MatchOption-at_some, same_Some, slice_get_within, slice_get-get_or, get_or_from_slice_get}
use Rattle.std.proofs.lemmas.Slice.Zip.{AllZip-left}
use Rattle.code_forms.specs.declared.module_code.CodeEntry.{CodeEntry}
use Rattle.code_forms.specs.declared.module_code.CodeProcedure.{CodeProcedure}
use Rattle.code_forms.specs.Phrases.{PhrasesFill}
use Rattle.code_forms.specs.Routine.{code_end, spots}
use Rattle.code_forms.proofs.Leading.{begins_there}
use Rattle.object_files.specs.declared.image.Image.{Image}
use Rattle.object_files.specs.declared.image.Instance.{Instance}
use Rattle.signaller.specs.declared.search.Found.{Found}
use Rattle.signaller.specs.declared.search.Found.TheVariants.{Beyond}
use Rattle.code_forms.specs.declared.module_code.Phrase.{Phrase}
use Rattle.signaller.specs.declared.search.Links.{Links}
use Rattle.signaller.specs.declared.search.Search.{Search}
use Rattle.signaller.specs.declared.signal_id.SignalId.{SignalId}
use Rattle.signaller.specs.Search.{asked, first_place, fits_signal, innermost_of, numbered, search_at, next_arm, unwind_next}
use Rattle.signaller.specs.Tables.{IsCatchTable}
use Rattle.signaller.specs.Laws.{IsBegun}
use Rattle.signaller.proofs.Lying.{tables_of_valid}
use Rattle.signaller.proofs.Surrounding.{begins_innermost}
use Rattle.machine_rules.specs.LookUps.{procedure_of, links_of}
use Rattle.machine_rules.proofs.Located.{start_below}
use Rattle.machine_activations.specs.declared.row.Layout.{Layout}
use Rattle.machine_activations.specs.declared.row.Row.{Row}
use Rattle.machine_activations.specs.Shows.{IsPrepared}
use Rattle.machine_activations.proofs.Located.{InCode, in_code}
use Rattle.machine_ready.specs.declared.plan.Plan.{Plan}
use Rattle.machine_ready.specs.Openings.{IsInnermostAt}
use Rattle.machine_ready.specs.Ready.{IsPlan, IsPlanned}
use Rattle.machine_ready.proofs.Each.{some_and, zip_at, zip_within}
use Rattle.machine_signals.specs.Indexed.{AsksIn, AskedOf, BeginsThere, IsRead, ReadsLinks}
use Rattle.machine_signals.proofs.ArmStarts.{order, right}
use Rattle.machine_signals.proofs.Asked.{search_within}
use Rattle.machine_signals.proofs.InImage.{ProcedureAt, procedure_at}

-- The plan of a procedure.

module _ (image : Image) (plans : List (List Plan)) (planned : AllZip IsPlanned image.modules plans) (j n : ℕ) (there : IsSome (procedure_of image j n)) where
  abbrev at : ProcedureAt image j n
  at = procedure_at image j n there

  abbrev of_module : ℕ
  of_module = at.found.instance.module

  made : (m : List Plan) × (slice_get plans of_module ≡ Some m) × IsPlanned at.found.object m
  made =
      some_and (slice_get plans of_module) (IsPlanned at.found.object)
      (MatchOption-at_some (Unit {0}) (λ x. IsSomeAnd (slice_get plans of_module) (IsPlanned x)) at.found.object at.found.there (AllZip-left IsPlanned image.modules plans planned of_module))

  own_there : slice_get at.found.object.code.procedures n ≡ Some at.procedure
  own_there = ap (λ c. slice_get c.procedures n) at.found.code ∙ at.there

  plan : (x : Plan) × (slice_get made.0 n ≡ Some x) × IsPlan at.procedure x
  plan =
      some_and (slice_get made.0 n) (IsPlan at.procedure)
      (MatchOption-at_some (Unit {0}) (λ x. IsSomeAnd (slice_get made.0 n) (IsPlan x)) at.procedure own_there (AllZip-left IsPlan at.found.object.code.procedures made.0 made.2.plans n))

  module _ (instances : List Instance) (same_instances : instances ≡ image.instances) (modules : List (List Plan)) (same_plans : modules ≡ plans) (d : Instance) where
    instance_is : get_or instances j d ≡ at.found.instance
    instance_is = get_or_from_slice_get instances j at.found.instance d (ap (λ (xs : List Instance). slice_get xs j) same_instances ∙ at.found.is)

    made_is : slice_get modules (get_or instances j d).module ≡ Some made.0
    made_is = ap (λ (xs : List (List Plan)). slice_get xs (get_or instances j d).module) same_plans ∙ ap (λ (i : Instance). slice_get plans i.module) instance_is ∙ made.1

    pub plans_within : (get_or instances j d).module < length modules
    plans_within = slice_get_within modules (get_or instances j d).module made.0 made_is

    module _ (own : List Plan) (read : own ≡ get_or modules (get_or instances j d).module own) (mine : List Plan) (same_mine : mine ≡ own) where
      mine_is : slice_get mine n ≡ Some plan.0
      mine_is = ap (λ (xs : List Plan). slice_get xs n) (same_mine ∙ read ∙ get_or_from_slice_get modules (get_or instances j d).module made.0 own made_is) ∙ plan.1

      pub plan_within : n < length mine
      plan_within = slice_get_within mine n plan.0 mine_is

      pub plan_there : (e : Plan) (p : CodeProcedure) → procedure_of image j n ≡ Some p → IsPlan p (get_or mine n e)
      plan_there e p is =
          let same : at.procedure ≡ p = same_Some at.procedure p (sym at.is ∙ is) in
          subst (λ (x : Plan). IsPlan p x) (sym (get_or_from_slice_get mine n plan.0 e mine_is)) (subst (λ (q : CodeProcedure). IsPlan q plan.0) same plan.2)

-- The procedure of a row.

module _ (image : Image) (layout : Layout) (prepared : IsPrepared image layout) (row : Row) (read : IsRead image row) (p : CodeProcedure)
    (is : procedure_of image row.instance row.procedure ≡ Some p) where
  inside : InCode image row.instance row.procedure p
  inside = in_code image layout prepared row.instance row.procedure p is

  pub phrases_fill : PhrasesFill (spots p.code) p.phrases
  phrases_fill = (right inside.code inside.valid inside.depths row.procedure p inside.there).phrases

  pub table_there : IsCatchTable p.phrases
  table_there = tables_of_valid inside.code inside.valid row.procedure p inside.there

  entry_within : row.entry < length p.code
  entry_within =
      let same : read.procedure ≡ p = same_Some read.procedure p (sym read.is ∙ is) in
      subst (λ (q : CodeProcedure). row.entry < length q.code) same read.within

  module _ (code : List CodeEntry) (same_code : code ≡ p.code) (d : CodeEntry) where
    entry_there : slice_get p.code row.entry ≡ Some (get_or code row.entry d)
    entry_there = slice_get-get_or p.code row.entry d entry_within ∙ ap (λ (l : List CodeEntry). Some (get_or l row.entry d)) (sym same_code)

    pub entry_read : row.entry < length code
    entry_read = let l = entry_within in let e = ap length same_code in omega (arith, l, e)

    pub offset_inside : (get_or code row.entry d).at < code_end (spots p.code)
    offset_inside =
        start_below p.code (order inside.code inside.valid inside.depths row.procedure p inside.there) (get_or code row.entry d).at
        (record { number = row.entry; begins = begins_there p.code row.entry (get_or code row.entry d) entry_there })

    module _ (outward : Bool) (search : Search) (about : search ≡ search_at outward p.phrases (get_or code row.entry d).at) where
      pub begins_so : BeginsThere image outward row search
      begins_so q e is_q at =
          let same : p ≡ q = same_Some p q (sym is ∙ is_q) in
          let entry : get_or code row.entry d ≡ e = same_Some (get_or code row.entry d) e (sym entry_there ∙ ap (λ (x : CodeProcedure). slice_get x.code row.entry) same ∙ at) in
          about ∙ ap (λ (x : CodeProcedure). search_at outward x.phrases (get_or code row.entry d).at) same ∙ ap (λ (x : CodeEntry). search_at outward q.phrases x.at) entry

      pub asks_so : AskedOf image row search
      asks_so q is_q =
          let same : p ≡ q = same_Some p q (sym is ∙ is_q) in
          subst (λ (x : CodeProcedure). AsksIn x search) same (subst (λ (x : Search). AsksIn p x) (sym about) (search_within outward p (get_or code row.entry d).at))

    -- what its plan has of its entry
    module _ (plan_read : Plan) (is_plan : (q : CodeProcedure) → procedure_of image row.instance row.procedure ≡ Some q → IsPlan q plan_read)
        (innermost : List (Option ℕ)) (same_innermost : innermost ≡ plan_read.innermost) where
      pub innermost_within : row.entry < length innermost
      innermost_within =
          let l = zip_within (IsInnermostAt p.phrases) p.code plan_read.innermost (is_plan p is).innermost row.entry entry_within in
          let e = ap length same_innermost in omega (arith, l, e)

      pub innermost_there : (k : Option ℕ) → get_or innermost row.entry k ≡ innermost_of p.phrases (get_or code row.entry d).at
      innermost_there k =
          ap (λ (l : List (Option ℕ)). get_or l row.entry k) same_innermost
          ∙ zip_at (IsInnermostAt p.phrases) p.code plan_read.innermost (is_plan p is).innermost row.entry d k entry_within
          ∙ ap (λ (l : List CodeEntry). innermost_of p.phrases (get_or l row.entry d).at) (sym same_code)

    -- within a region a search begins with the innermost phrase
    pub innermost_begins : (o : Option ℕ) → o ≡ innermost_of p.phrases (get_or code row.entry d).at
        → record { phrase = o } ≡ search_at false p.phrases (get_or code row.entry d).at
    innermost_begins o is_o = within_by o is_o
      where
        begun : IsBegun p.phrases false (get_or code row.entry d).at
        begun = begins_innermost (spots p.code) p.phrases phrases_fill false (get_or code row.entry d).at offset_inside

        within_by : (o : Option ℕ) → o ≡ innermost_of p.phrases (get_or code row.entry d).at → record { phrase = o } ≡ search_at false p.phrases (get_or code row.entry d).at
        within_by None e = sym (begun.around (sym e))
        within_by (Some n) e = sym (begun.inside n (sym e))

  -- how its instance reads labels
  module _ (links : List Links) (reads : ReadsLinks image links) (own : List Links) (same_own : own ≡ links) where
    links_there : slice_get own row.instance ≡ Some (links_of image row.instance)
    links_there =
        let t = procedure_at image row.instance row.procedure (subst (λ o. IsSome o) (sym is) refl) in
        ap (λ (l : List Links). slice_get l row.instance) same_own ∙ reads row.instance (slice_get_within image.instances row.instance t.found.instance t.found.is)

    pub links_within : row.instance < length own
    links_within = slice_get_within own row.instance (links_of image row.instance) links_there

    pub links_read : (l : Links) → l ≡ get_or own row.instance l → l ≡ links_of image row.instance
    links_read l is_l = is_l ∙ get_or_from_slice_get own row.instance (links_of image row.instance) l links_there

    pub answer_is : (l : Links) → l ≡ get_or own row.instance l → (search : Search) (signal : SignalId) (found : Found) → found ≡ next_arm p.phrases search l signal
        → (q : CodeProcedure) → procedure_of image row.instance row.procedure ≡ Some q → found ≡ next_arm q.phrases search (links_of image row.instance) signal
    answer_is l is_l search signal found said q is_q =
        let same : p ≡ q = same_Some p q (sym is ∙ is_q) in
        said ∙ ap (λ (k : Links). next_arm p.phrases search k signal) (links_read l is_l) ∙ ap (λ (x : CodeProcedure). next_arm x.phrases search (links_of image row.instance) signal) same

  -- what its table says to a jump
  pub unwind_is : (search : Search) (found : Found) → found ≡ unwind_next p.phrases search → (q : CodeProcedure) → procedure_of image row.instance row.procedure ≡ Some q → found ≡ unwind_next q.phrases search
  unwind_is search found said q is_q =
      let same : p ≡ q = same_Some p q (sym is ∙ is_q) in said ∙ ap (λ (x : CodeProcedure). unwind_next x.phrases search) same

-- where no phrase is left none is asked
pub none_left : (table : List Phrase) (search : Search) (links : Links) (signal : SignalId) → search.phrase ≡ None → Beyond ≡ next_arm table search links signal
unfolding first_place
none_left table search links signal none = sym (ap (λ o. numbered true table (first_place (fits_signal links signal) table (asked true table o))) none)
