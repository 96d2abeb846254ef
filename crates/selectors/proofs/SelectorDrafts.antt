-- Drafts of complex selectors.
use Rattle.std.proofs.Common.{◌≡◌, ◌∙◌, ap, sym, refl, List, [], ◌∷◌, Option, None}
use Rattle.selectors_model.specs.Grammar.{Atom, chain_of}
use Rattle.selectors_model.specs.Selectors as model
use Rattle.selectors.specs.declared.reading.atoms.Part.{Part}
use Rattle.selectors.specs.declared.reading.atoms.Part.TheVariants.{Dot, Colon, Star, Word, Whole, Function, Other}
use Rattle.selectors.specs.declared.reading.complex.Left.{Left}
use Rattle.selectors.specs.declared.reading.complex.Left.TheVariants as variant
use Rattle.selectors.specs.declared.reading.complex.SelectorDraft.{SelectorDraft}
use Rattle.selectors.specs.declared.reading.compounds.CompoundDraft.{CompoundDraft}
use Rattle.selectors.specs.inner.Atoms.{part_view}
use Rattle.selectors.specs.inner.Drafts.{TakesPart, TakesAtom, compound_after, begun, goes_on, selector_of_parts, selector_after}

-- a part of a compound goes on with the first one
chain-part : (p : Part) (atoms : List Atom)
    → chain_of (part_view p ∷ atoms)
    ≡ record { first = part_view p ∷ (chain_of atoms).first; links = (chain_of atoms).links }
chain-part Dot atoms = refl
chain-part Colon atoms = refl
chain-part Star atoms = refl
chain-part (Word name) atoms = refl
chain-part (Whole s) atoms = refl
chain-part (Function name s) atoms = refl
chain-part Other atoms = refl

pub part-taken : (d : SelectorDraft) (new : CompoundDraft) (p : Part)
    → TakesPart d.in_function d.compound (part_view p) new
    → TakesAtom d (part_view p) (record { in_function = d.in_function; left = d.left; compound = new })
part-taken d new p takes = record {
  selector = λ atoms.
      ap (λ c. goes_on d.in_function (begun d.left c) (chain_of atoms).links) (takes (chain_of atoms).first)
      ∙ sym (ap (selector_of_parts d) (chain-part p atoms));
  place = refl;
}

-- nothing is on the right of what is on the left
pub begun-none : (left : Left) → begun left None ≡ None
begun-none variant.Nothing = refl
begun-none (variant.Selector s by) = refl
begun-none variant.Invalid = refl

pub ended-joined : (d : SelectorDraft) (left : Left) (compound : Option model.Compound) (s : Option model.Selector)
    → left ≡ d.left → compound ≡ compound_after d.in_function d.compound [] → s ≡ begun left compound
    → s ≡ selector_after d []
ended-joined d left compound s is ends e =
    e ∙ (ap (begun left) ends ∙ ap (λ l. begun l (compound_after d.in_function d.compound [])) is)
