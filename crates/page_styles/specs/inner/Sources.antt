-- What styles are made from.
use Rattle.cascade_model.specs.DocumentStyles.{Page}
use Rattle.page_styles.specs.Styles.{page_of}
use Rattle.page_styles.specs.declared.chains.Source.{Source}

abbrev pub source_view : Source → Page
source_view from = page_of from.book.now from.viewport from.doc.now.document.root
