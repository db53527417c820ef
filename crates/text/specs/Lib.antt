-- The definitions that the contracts of `read` and `write` cite: read Causes and Fields first, then Spans, Texts,
-- Written. Rfc4180 and Files say the same in the terms of RFC 4180.
pub mod Causes
pub mod Fields
pub mod Spans
pub mod Texts
pub mod Written
pub mod Rfc4180
pub mod Files
pub mod inner
