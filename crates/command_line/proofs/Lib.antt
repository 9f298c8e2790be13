mod Lists
mod Views
