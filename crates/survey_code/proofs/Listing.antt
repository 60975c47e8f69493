-- The sites of a procedure, and what a survey takes of it.
use Rattle.std.proofs.Common.{◌≡◌, ⊎_elim, ℕ, ◌+◌, ◌<◌, ◌≤◌, List, [], ◌++◌, length, get_or, take, Bool, true, false, Option, Some, None, refl, sym, ap, subst, ◌∙◌, arith}
use Rattle.std.specs.Prelude.{◌↔◌, Contains, option_map, slice_get}
use Rattle.std.proofs.lemmas.Bool.{cases_lt}
use Rattle.std.proofs.lemmas.List.{get_or-take, length-take-le}
use Rattle.std.proofs.lemmas.Option.{none-some, same_Some, slice_get_within, slice_get-get_or}
use Rattle.code_forms.specs.declared.instruction.Instruction.{Instruction}
use Rattle.code_forms.specs.declared.module_code.CodeEntry.{CodeEntry}
use Rattle.code_forms.specs.declared.module_code.CodeProcedure.{CodeProcedure}
use Rattle.code_forms.specs.declared.module_code.ModuleCode.{ModuleCode}
use Rattle.code_forms.specs.Ranges.{InOrder}
use Rattle.code_forms.specs.Valid.{Valid}
use Rattle.machine_rules.proofs.OneResult.{found}
use Rattle.survey_rules.specs.Escapes.{position_of}
use Rattle.survey_rules.specs.Reached.{Reached}
use Rattle.survey_code.specs.declared.event.Event.{Event}
use Rattle.survey_code.specs.declared.surveyed.Passing.{Passing}
use Rattle.survey_code.specs.declared.surveyed.Site.{Site}
use Rattle.survey_code.specs.Around.{ArePositions}
use Rattle.survey_code.specs.Endings.{TellReached}
use Rattle.survey_code.specs.Events.{event_of}
use Rattle.survey_code.specs.Graphs.{IsGraph, AreReached}
use Rattle.survey_code.specs.Leads.{IsGraphOf, listed}
use Rattle.survey_code.specs.Listing.{site_with, site_of, AreSites}
use Rattle.survey_code.specs.Passings.{ArePassings}
use Rattle.survey_code.specs.Reading.{CanBeRead}
use Rattle.survey_code.specs.Sites.{IsSite, IsSurveyed}
use Rattle.survey_code.proofs.Building.{in_more, more_left, more_right}
use Rattle.survey_code.proofs.Endings.{instruction_there}
use Rattle.survey_code.proofs.Leading.{sound, complete, is_graph}
use Rattle.survey_code.proofs.Reading.{can_be_read}
use Rattle.survey_code.proofs.Standing.{stands_in_an_image}

-- One site more.

pub no_sites : (p : CodeProcedure) (marks : List Bool) (sites : List Site) → sites ≡ [] → AreSites p marks 0 sites
no_sites p marks sites e site = (
  λ c. absurd (let l = c.1 in let z = ap length e in omega (arith, l, z)),
  λ s. absurd (let l = s.below in omega (arith, l)),
)

pub site_more : (p : CodeProcedure) (marks : List Bool) (positions : List (Option ℕ)) (entries : List CodeEntry) (n : ℕ) (d : CodeEntry) (sites sites' : List Site) (o : Option Site)
    → entries ≡ p.code → n < length entries → length positions ≡ length p.code → ArePositions p positions → AreSites p marks n sites
    → o ≡ site_of (get_or marks n false) (get_or positions n None) (get_or entries n d).instruction → sites' ≡ sites ++ listed o → AreSites p marks (n + 1) sites'
site_more p marks positions entries n d sites sites' o same l many are all made e site =
    let entry = get_or entries n d in
    let is : slice_get p.code n ≡ Some entry = ap (λ (xs : List CodeEntry). slice_get xs n) (sym same) ∙ slice_get-get_or entries n d l in
    let position : get_or positions n None ≡ position_of p entry.at = are n entry (let z = ap length same in omega (arith, l, z, many)) is in
    let made' : o ≡ site_of (get_or marks n false) (position_of p entry.at) entry.instruction = made ∙ ap (λ x. site_of (get_or marks n false) x entry.instruction) position in (
      λ c. ⊎_elim
          (λ (h : Contains sites site). let s = (all site).0 h in
          record { number = s.number; below = (let b = s.below in omega (arith, b)); entry = s.entry; is = s.is; made = s.made })
          (λ (h : o ≡ Some site). record { number = n; below = omega arith; entry = entry; is = is; made = sym made' ∙ h })
          (in_more sites sites' o site e c),
      λ s. ⊎_elim
          (λ (less : s.number < n). more_left sites sites' o site e ((all site).1 (record { number = s.number; below = less; entry = s.entry; is = s.is; made = s.made })))
          (λ (most : n ≤ s.number).
          let last : n ≡ s.number = (let b = s.below in omega (arith, b, most)) in
          let one : entry ≡ s.entry = same_Some entry s.entry (sym is ∙ ap (λ i. slice_get p.code i) last ∙ s.is) in
          more_right sites sites' o site e
          (made' ∙ ap (λ (x : CodeEntry). site_of (get_or marks n false) (position_of p x.at) x.instruction) one
          ∙ ap (λ i. site_of (get_or marks i false) (position_of p s.entry.at) s.entry.instruction) last ∙ s.made))
          (cases_lt s.number n),
    )

-- of all instructions
pub all_sites : (p : CodeProcedure) (marks : List Bool) (entries : List CodeEntry) (n : ℕ) (sites : List Site) → entries ≡ p.code → length entries ≤ n → AreSites p marks n sites
    → AreSites p marks (length p.code) sites
all_sites p marks entries n sites same end all site =
    let most : length p.code ≤ n = (let z = ap length same in omega (arith, end, z)) in (
      λ c. let s = (all site).0 c in
          record { number = s.number; below = slice_get_within p.code s.number s.entry s.is; entry = s.entry; is = s.is; made = s.made },
      λ s. (all site).1 (record { number = s.number; below = (let b = s.below in omega (arith, b, most)); entry = s.entry; is = s.is; made = s.made }),
    )

-- What they are.

record Made (reached : Bool) (position : Option ℕ) (i : Instruction) (site : Site) : Type 0 where
  marked : reached ≡ true
  event : event_of i ≡ Some site.event
  stands : site.position ≡ position

made_event : (position : Option ℕ) (o : Option Event) (site : Site) → option_map (site_with position) o ≡ Some site → (o ≡ Some site.event) × (site.position ≡ position)
made_event position None site e = absurd (none-some site e)
made_event position (Some event) site e =
    let same = same_Some (site_with position event) site e in
    (ap (λ (x : Site). Some x.event) same, sym (ap (λ (x : Site). x.position) same))

made_parts : (reached : Bool) (position : Option ℕ) (i : Instruction) (site : Site) → site_of reached position i ≡ Some site → Made reached position i site
made_parts true position i site e = let h = made_event position (event_of i) site e in record { marked = refl; event = h.0; stands = h.1 }
made_parts false position i site e = absurd (none-some site e)

made_of : (reached : Bool) (position : Option ℕ) (i : Instruction) (site : Site) → reached ≡ true → event_of i ≡ Some site.event → site.position ≡ position
    → site_of reached position i ≡ Some site
made_of reached position i site r e p =
    ap (λ b. site_of b position i) r ∙ ap (option_map (site_with position)) e ∙ ap (λ x. Some (site_with x site.event)) (sym p)

pub sites_are : (m : ModuleCode) (p : CodeProcedure) (marks : List Bool) (sites : List Site) → InOrder p.code → TellReached m p marks → AreSites p marks (length p.code) sites
    → (site : Site) → Contains sites site ↔ IsSite m p site
sites_are m p marks sites order tell all site = (
  λ c. let s = (all site).0 c in
      let h = made_parts (get_or marks s.number false) (position_of p s.entry.at) s.entry.instruction site s.made in
      record {
        at = s.entry.at;
        instruction = s.entry.instruction;
        stands = record { reached = tell.reached s.number s.entry s.is h.marked; is = instruction_there p.code order s.number s.entry s.is };
        event = h.event;
        position = h.stands;
      },
  λ s. let f = found p.code s.at s.instruction s.stands.is in
      (all site).1 (record {
        number = f.number;
        below = slice_get_within p.code f.number f.entry f.is;
        entry = f.entry;
        is = f.is;
        made = made_of (get_or marks f.number false) (position_of p f.entry.at) f.entry.instruction site
            (tell.all f.number f.entry f.is (subst (λ x. Reached m p x) (sym f.begins) s.stands.reached))
            (ap event_of f.instruction ∙ s.event)
            (s.position ∙ ap (λ x. position_of p x) (sym f.begins));
      }),
)

-- Of a procedure of valid code.

module _ (m : ModuleCode) (v : Valid m) (p : CodeProcedure) (own : Contains m.procedures p) where
  pub read : CanBeRead p
  read = let s = stands_in_an_image m v p own in can_be_read s.image s.ready s.instance s.number m p s.is

  pub its_graph : (graph : List (List ℕ)) → IsGraphOf m p graph → IsGraph graph
  its_graph graph g = let s = stands_in_an_image m v p own in is_graph s.image s.world s.instance s.number m p s.is graph g

  pub tells : (graph : List (List ℕ)) (marks marks' : List Bool) (count : ℕ) → IsGraphOf m p graph → AreReached graph marks → count ≡ length p.code → marks' ≡ take count marks
      → TellReached m p marks'
  tells graph marks marks' count g are same e =
      let s = stands_in_an_image m v p own in
      let a = are.count in
      let b = g.count in
      let read : (k : ℕ) → k < length p.code → get_or marks' k false ≡ get_or marks k false =
      λ k l. ap (λ xs. get_or xs k false) e ∙ get_or-take count marks k false (omega (arith, l, same)) in
      record {
        count = ap length e ∙ length-take-le count marks (omega (arith, a, b, same)) ∙ same;
        reached = λ k entry is marked. (sound s.image s.world s.instance s.number m p s.is graph g k
            (are.reached k (sym (read k (slice_get_within p.code k entry is)) ∙ marked))).entry k entry is refl;
        all = λ k entry is reached. read k (slice_get_within p.code k entry is)
            ∙ are.all k (complete s.image s.world s.instance s.number m p s.is graph g entry.at reached k entry is refl);
      }

  pub surveyed : (marks : List Bool) (sites : List Site) (passings : List Passing) → TellReached m p marks → AreSites p marks (length p.code) sites → ArePassings p marks passings
      → IsSurveyed m p (record { sites = sites; passings = passings })
  surveyed marks sites passings tell all passes = record {
    sites = sites_are m p marks sites read.order tell all;
    count = passes.0;
    passings = passes.1 m tell;
  }
