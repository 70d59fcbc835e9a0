-- Each of the three calls is refused exactly where there is cause: the causes of `specs/` against the definitions that the contracts cite.
pub mod Exactly
pub mod Reader
pub mod Table
pub mod Builder
pub mod Matcher
