-- What requests as they are read stand for: they hold trees.
use Rattle.request_model.specs.Requests as model
use Rattle.dom_arena.specs.Shape.{shape}
use Rattle.relayout_requests.specs.declared.request.Request.{Request}
use Rattle.relayout_requests.specs.declared.request.Request.TheVariants as request
use Rattle.relayout_requests.specs.declared.request.Edit.{Edit}
use Rattle.relayout_requests.specs.declared.request.Edit.TheVariants as edit
use Rattle.relayout_requests.specs.declared.request.Asked.{Asked}
use Rattle.relayout_requests.specs.declared.request.Asked.TheVariants as asked

abbrev pub edit_view : Edit → model.Edit
edit_view (edit.Load width height doc sheets) = model.load width height (shape doc) sheets
edit_view (edit.Insert parent index tree) = model.insert parent index (shape tree)
edit_view (edit.Remove id) = model.remove id
edit_view (edit.Sheet at css) = model.sheet at css

abbrev pub request_view : Request → model.Request
request_view (request.Edit e) = model.edit (edit_view e)
request_view (request.Query q) = model.query q

abbrev pub asked_view : Asked → model.Asked
asked_view asked.Nothing = model.nothing
asked_view (asked.Broken c) = model.broken c
asked_view (asked.Request q) = model.request (request_view q)
