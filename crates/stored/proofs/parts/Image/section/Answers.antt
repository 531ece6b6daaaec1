-- `stored::parts::Image::section` meets its contract: the part goes from this section's offset to the next one, which is not before it and within the bytes.
use Rattle.stored.proofs.Stretches.{span_rises, span_within, span_whole}
use Rattle.stored.proofs.parts.Image.section.Goals as goal

pub slice_bounds-result-count : goal.slice_bounds-result-count
slice_bounds-result-count c = span_rises c.args.self.now.laid c.requires c.offset-from.ensures c.offset-to.ensures

pub slice_bounds-result-start : goal.slice_bounds-result-start
slice_bounds-result-start c = span_rises c.args.self.now.laid c.requires c.offset-from.ensures c.offset-to.ensures

pub slice_bounds-result-end : goal.slice_bounds-result-end
slice_bounds-result-end c = span_within c.args.self.now.laid c.requires c.offset-from.ensures c.offset-to.ensures

pub returns : goal.returns
returns c = span_whole c.args.self.now.laid c.requires c.offset-from.ensures c.offset-to.ensures
