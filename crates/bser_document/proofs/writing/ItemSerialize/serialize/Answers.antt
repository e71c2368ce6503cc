-- The item is put, which is no deeper than its document has nodes and one.
use Rattle.std.proofs.Common.{◌∙◌}
use Rattle.bser_document.specs.Holds.{item_value}
use Rattle.bser_document.proofs.Places.{item_read, item_shallow}
use Rattle.bser_document.proofs.writing.ItemSerialize.serialize.Goals as goal

pub returns-clause-ok : goal.returns-clause-ok
returns-clause-ok g c = c.put_item.ensures.ok (item_value c.args.self.now) (item_read c.args.self.now) (item_shallow c.args.self.now c.len.result (c.len.ensures ∙ c.args.self.now.document.now.nodes.ok.0))

pub returns-clause-writable : goal.returns-clause-writable
returns-clause-writable g c = c.put_item.ensures.writable (item_value c.args.self.now) (item_read c.args.self.now) (item_shallow c.args.self.now c.len.result (c.len.ensures ∙ c.args.self.now.document.now.nodes.ok.0))

pub returns-clause-err : goal.returns-clause-err
returns-clause-err g c = c.put_item.ensures.err (item_value c.args.self.now) (item_read c.args.self.now) (item_shallow c.args.self.now c.len.result (c.len.ensures ∙ c.args.self.now.document.now.nodes.ok.0))
