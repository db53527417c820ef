-- What only those who print or pack a build's numbers need.
pub mod Small
