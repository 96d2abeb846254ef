-- How what is seen of a document is stored.
use Rattle.std.specs.Prelude.{refl}
use Rattle.std.specs.Coded.{Coded, code_by}
use Rattle.page_model.specs.Document.{Document}
use Rattle.page_model.specs.DocumentCode.{coded_document}
use Rattle.dom_arena.specs.Docs.{Seen}

abbrev pub coded_seen : Coded Seen
coded_seen = code_by Document coded_document (λ s. s.document) (λ d. record { document = d }) (λ _. refl)
