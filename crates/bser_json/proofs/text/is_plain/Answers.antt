-- Bytes that are plain stand for themselves.
use Rattle.json.proofs.Printed.Plain.{escape_on_plain}
use Rattle.bser_json.proofs.text.is_plain.Goals as goal

pub returns-then-bytes-ge16 : goal.returns-then-bytes-ge16
returns-then-bytes-ge16 c = escape_on_plain c.is_plain_by.result c.args.bytes.now c.is_plain_by.ensures

pub returns-then-bytes-ge4 : goal.returns-then-bytes-ge4
returns-then-bytes-ge4 c = escape_on_plain c.is_plain_by-then-bytes-ge4.result c.args.bytes.now c.is_plain_by-then-bytes-ge4.ensures

pub returns-else-bytes-ge4 : goal.returns-else-bytes-ge4
returns-else-bytes-ge4 c = escape_on_plain c.is_plain_each.result c.args.bytes.now c.is_plain_each.ensures
