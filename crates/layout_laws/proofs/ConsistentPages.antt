-- The consistent assignments to a page.
use Rattle.std.proofs.Common.{IsSome, List, Some, ap, inl, inr, is_some, subst, sym, ℕ, ◌∙◌, ◌≡◌}
use Rattle.std.proofs.lemmas.Bool.{false≢true}
use Rattle.layout_laws.proofs.ElementIds.{distinct-elements, element-named, found-element}
use Rattle.layout_laws.proofs.LaidEntries.{holds-laid, laid-holds}
use Rattle.layout_laws.proofs.Lookups.{keys, laid-keys, lookup-among, lookup-some, says-itself, says-lookup}
use Rattle.layout_model.specs.Above.{above_root, viewport_containing}
use Rattle.layout_model.specs.Assignments.{GivesNoOther, IsConsistent, styling_of}
use Rattle.layout_model.specs.Entries.{Assignment, Entry}
use Rattle.layout_model.specs.Laid.{Says, assignment_of, laid_page}
use Rattle.layout_model.specs.Setting.{Setting}
use Rattle.page_laws.proofs.Find.{named-some}
use Rattle.page_laws.proofs.Options.{none-or-some}
use Rattle.page_model.specs.Document.{AreDistinct, IsAmong, find, ids, name_at}
use Rattle.page_model.specs.Pages.{Page}
use Rattle.selectors_model.specs.Matching.{elements_of}

pub page-keys : (page : Page) → keys (laid_page page) ≡ elements_of page.document.root
page-keys page = laid-keys (styling_of page) above_root (viewport_containing page.viewport) page.document.root

pub consistent-says : (setting : Setting) (page : Page) (a : Assignment) → IsConsistent setting page a → Says a (laid_page page)
consistent-says setting page a h =
    (holds-laid (styling_of page) a above_root (viewport_containing page.viewport) page.document.root h.holds).1

pub says-consistent : (setting : Setting) (page : Page) (a : Assignment) → Says a (laid_page page) → GivesNoOther a page.document.root → IsConsistent setting page a
says-consistent setting page a h k = record {
  holds = (laid-holds (styling_of page) a above_root (viewport_containing page.viewport) page.document.root h).1;
  no_other = k;
}

-- what is laid says what an element is given
pub given-laid : (setting : Setting) (page : Page) (i : ℕ) → IsSome (name_at i page.document.root)
    → (x : Entry) × ((a : Assignment) → IsConsistent setting page a → a i ≡ Some x)
given-laid setting page i named =
    let n = named-some (find i page.document.root) named in
    let among : IsAmong i (keys (laid_page page)) = subst (λ (is : List ℕ). IsAmong i is) (sym (page-keys page)) (found-element i page.document.root n.0 n.1.0 n.1.1) in
    let x = lookup-some i (laid_page page) among in
    (x.0, λ a h. says-lookup a (laid_page page) (consistent-says setting page a h) i x.0 x.1)

pub page-same : (setting : Setting) (page : Page) (a b : Assignment) → IsConsistent setting page a → IsConsistent setting page b → (i : ℕ) → a i ≡ b i
page-same setting page a b h k i = elim (none-or-some (name_at i page.document.root)) [
  | inl none ↦ h.no_other i none ∙ sym (k.no_other i none)
  | inr some ↦
      let x = given-laid setting page i (ap is_some some.1) in
      x.1 a h ∙ sym (x.1 b k)
]

pub page-some : (setting : Setting) (page : Page) (a : Assignment) (i : ℕ) → IsConsistent setting page a → IsSome (name_at i page.document.root) → IsSome (a i)
page-some setting page a i h named = ap is_some ((given-laid setting page i named).1 a h)

pub page-element : (setting : Setting) (page : Page) (a : Assignment) (i : ℕ) → IsConsistent setting page a → IsSome (a i) → IsSome (name_at i page.document.root)
page-element setting page a i h some = elim (none-or-some (name_at i page.document.root)) [
  | inl none ↦ absurd (false≢true (ap is_some (sym (h.no_other i none)) ∙ some))
  | inr named ↦ ap is_some named.1
]

-- the assignment that is laid gives nothing to what is no element
laid-no-other : (page : Page) → AreDistinct (ids page.document.root) → GivesNoOther (assignment_of (laid_page page)) page.document.root
laid-no-other page given i none = elim (none-or-some (assignment_of (laid_page page) i)) [
  | inl nothing ↦ nothing
  | inr some ↦
      let among : IsAmong i (elements_of page.document.root) = subst (λ (is : List ℕ). IsAmong i is) (page-keys page) (lookup-among i (laid_page page) some.0 some.1) in
      absurd (false≢true (ap is_some (sym none) ∙ element-named i page.document.root given among))
]

pub laid-consistent : (setting : Setting) (page : Page) → AreDistinct (ids page.document.root) → IsConsistent setting page (assignment_of (laid_page page))
laid-consistent setting page given =
    let distinct : AreDistinct (keys (laid_page page)) = subst (λ (is : List ℕ). AreDistinct is) (sym (page-keys page)) (distinct-elements page.document.root given) in
    says-consistent setting page (assignment_of (laid_page page)) (says-itself (laid_page page) distinct) (laid-no-other page given)
