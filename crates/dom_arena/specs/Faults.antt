-- The refusals that a document's faults are, and what a call answers by the causes of its refusal.
use Rattle.std.specs.Prelude.{◌≡◌, ◌≢◌, ◌⊎◌, Option, None, Result, Ok, Err}
use Rattle.page_model.specs.Refusals.{Causes, first_of, cause_of}
use Rattle.page_model.specs.declared.cause.Cause.{Cause}
use Rattle.page_model.specs.declared.refusal.Refusal.{Refusal}
use Rattle.page_model.specs.declared.refusal.Refusal.TheVariants as refusal
use Rattle.dom_arena.specs.declared.fault.DocFault.{DocFault}
use Rattle.dom_arena.specs.declared.fault.DocFault.TheVariants.{NoMemory, NoNode, NotElement, NotText, IsRoot, Cycle, BadIndex, BadName, NodeLimit, DepthLimit, TextLimit, IdLimit, AttrLimit}

-- the refusal of an edit that a fault becomes
abbrev pub refusal_of_fault : DocFault → Refusal
refusal_of_fault NoMemory = refusal.NoMemory
refusal_of_fault NoNode = refusal.NoNode
refusal_of_fault NotElement = refusal.NotElement
refusal_of_fault NotText = refusal.NotText
refusal_of_fault IsRoot = refusal.IsRoot
refusal_of_fault Cycle = refusal.Cycle
refusal_of_fault BadIndex = refusal.BadIndex
refusal_of_fault BadName = refusal.BadName
refusal_of_fault NodeLimit = refusal.NodeLimit
refusal_of_fault DepthLimit = refusal.DepthLimit
refusal_of_fault TextLimit = refusal.TextLimit
refusal_of_fault IdLimit = refusal.IdLimit
refusal_of_fault AttrLimit = refusal.AttrLimit

-- the cause of a fault; want of memory has none
abbrev pub cause_in : DocFault → Option Cause
cause_in fault = cause_of (refusal_of_fault fault)

-- what a call answers is by these causes: a fault is the first cause that holds, or want of memory; and where there is none, no cause holds
abbrev pub AnswersBy : {X : Type 0} → Causes → Result X DocFault → Type 0
AnswersBy causes (Ok x) = first_of causes ≡ None
AnswersBy causes (Err e) = (e ≡ NoMemory) ⊎ (first_of causes ≡ cause_in e)

-- what a check answers, which takes no memory: the first cause that holds, or none
abbrev pub ChecksBy : {X : Type 0} → Causes → Result X DocFault → Type 0
ChecksBy causes (Ok x) = first_of causes ≡ None
ChecksBy causes (Err e) = (e ≢ NoMemory) × (first_of causes ≡ cause_in e)
